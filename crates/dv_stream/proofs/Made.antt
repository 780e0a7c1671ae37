-- What a run is made of, for a job that is said in another way.
use Rattle.std.proofs.Common.{◌≡◌, ℕ, ◌<◌, List, Some, sym, ap, subst, ◌∙◌}
use Rattle.std.specs.List.{slice_get}
use Rattle.dv_conservative.specs.Alike.{AreAlike}
use Rattle.dv_conservative.specs.Sound.{IsJob}
use Rattle.dv_conservative.specs.World.{Channel, Job, share_of}
use Rattle.dv_core.specs.ProcessState.{IsNew, ProcessState}
use Rattle.dv_core.specs.Worlds.{AreMadeFor}
use Rattle.dv_proc.specs.declared.channel.Channel.{Channel as ChannelOfCode}

pub made_alike : {J K P : Type 0} (means : J → Job) (others : K → Job) (state : P → ProcessState) (IsValid : P → Type 0) (j : J) (k : K)
    (channels : List ChannelOfCode) (processes : List P) → others k ≡ means j → AreMadeFor means state IsValid j channels processes
    → AreMadeFor others state IsValid k channels processes
made_alike {J} {K} {P} means others state IsValid j k channels processes e m = record {
  valid = m.valid;
  fits = m.fits;
  sound = subst (IsJob m.fits) (sym e) m.sound;
  links = m.links ∙ ap (λ (x : Job). x.channels) (sym e);
  count = m.count ∙ ap (λ (x : Job). x.processes) (sym e);
  ends =
      subst (λ (x : Job). (l : ℕ) (c : Channel) → slice_get x.channels l ≡ Some c → (c.source < x.processes) × (c.target < x.processes))
      (sym e) m.ends;
  shares =
      subst (λ (x : Job). (p : ℕ) (y : P) → slice_get processes p ≡ Some y → AreAlike (state y).share (share_of x p) × IsNew (state y))
      (sym e) m.shares;
  few = m.few;
}
