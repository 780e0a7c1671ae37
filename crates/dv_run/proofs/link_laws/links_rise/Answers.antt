use Rattle.std.proofs.Common.{ℕ, length, refl}
use Rattle.dv_tree.specs.Instances.{instances, root_inputs, root_outputs}
use Rattle.dv_conservative.specs.Links.{Link as Meant}
use Rattle.dv_flat.specs.Ends.{input_ports, output_count}
use Rattle.dv_flat.specs.Links.{direct_copies, entry_copies, entry_links, exit_copies, root_ports}
use Rattle.law_sound.specs.Members.{direct_of, entry_of, exit_of}
use Rattle.dv_share.proofs.Rising.{rises_after}
use Rattle.dv_run.proofs.Rising.{indices_rise, rise_by_source, rise_with_ends, rises}
use Rattle.dv_run.proofs.link_laws.links_rise.Goals as goal

pub returns-clause-direct : goal.returns-clause-direct
returns-clause-direct c = λ f.
    rise_by_source (direct_copies f) (input_ports f) direct_of (λ l. refl) (λ l. refl) output_count (instances f)

pub returns-clause-entrances : goal.returns-clause-entrances
returns-clause-entrances c = λ f.
    rises_after entry_of (λ (l : Meant). l.from_port) (entry_links f)
    (rises (λ l. l.from) 0 (entry_links f)
    (rise_with_ends (entry_copies f) (input_ports f) (λ (n : ℕ). n) 0 (root_ports (root_inputs f))
    (indices_rise 0 (length (root_inputs f)))))

pub returns-clause-exits : goal.returns-clause-exits
returns-clause-exits c = λ f.
    rise_by_source (exit_copies f) (root_ports (root_outputs f)) exit_of (λ l. refl) (λ l. refl) output_count (instances f)
