use Rattle.dv_flat.proofs.Apart.{all_apart}
use Rattle.dv_flat.proofs.laws.no_component_is_linked_to_itself.Goals as goal

pub returns : goal.returns
returns c = λ f none. all_apart f (c.checked_files.ensures f none)
