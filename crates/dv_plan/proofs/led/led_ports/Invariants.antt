use Rattle.std.proofs.Common.{◌≡◌, ℕ, ◌&&◌, ◌||◌, drop, false, get_or, length, nat_lt}
use Rattle.dv_share.specs.Links.{links_of}
use Rattle.dv_plan.specs.Steps.{is_led}
use Rattle.dv_plan.proofs.led.led_ports.Given as goal

-- a port is marked or led by the rest of the links where it is led by one of all
abbrev pub invariant-loop-link : goal.invariant-loop-link
invariant-loop-link l = record {
  long : length l.led.items ≡ l.ports;
  marked : (port : ℕ) → (get_or l.led.items port false ||
      (nat_lt port l.ports && is_led l.members (links_of (drop l.link-index l.entrances)) port))
      ≡ (nat_lt port l.ports && is_led l.members (links_of l.entrances) port);
}
