use Rattle.std.proofs.Common.{◌≡◌, ℕ, List, [], Option, Err, map, string_bytes, ap, sym, ◌∙◌, rules}
use Rattle.std.proofs.Math.Path.{fun_ext}
use Rattle.dv_bag.specs.declared.inputs.Input.{Input}
use Rattle.dv_inputs.specs.Lines.{lines_of}
use Rattle.dv_inputs.specs.Numbers.{port_in}
use Rattle.dv_inputs.specs.Reading.{reading_after, reading_of}
use Rattle.dv_inputs.specs.Steps.{number_in}
use Rattle.dv_inputs.specs.declared.error.InputsError.TheVariants.{Refused}
use Rattle.dv_inputs.proofs.reader.read_inputs.Goals as goal

-- the lines are read from no inputs on, by a table that finds what the names find
same_reading : (text : List ℕ) (ports : List (List ℕ)) (limit : ℕ) (find : List ℕ → Option ℕ) (inputs : List Input)
    → ((name : List ℕ) → find name ≡ port_in ports name) → inputs ≡ []
    → reading_of text ports limit ≡ reading_after find limit inputs 1 (lines_of text)
same_reading text ports limit find inputs finds none =
    ap (λ (f : List ℕ → Option ℕ). reading_after f limit [] 1 (lines_of text)) (sym (fun_ext finds))
    ∙ ap (λ (first : List Input). reading_after find limit first 1 (lines_of text)) (sym none)

pub returns-clause-inputs : goal.returns-clause-inputs
returns-clause-inputs c =
    same_reading c.args.text.now (map string_bytes c.args.ports.now) c.args.limit (number_in c.in_ok-numbers.numbers)
    c.new-inputs.result c.in_ok-numbers.ensures c.new-inputs.ensures
    ∙ c.in_ok-read_lines.ensures.ok

pub returns-in_err-read_lines-clause-refused : goal.returns-in_err-read_lines-clause-refused
returns-in_err-read_lines-clause-refused c r e =
    let refused : c.read_lines.result ≡ Err (Refused r) = search rules in
    same_reading c.args.text.now (map string_bytes c.args.ports.now) c.args.limit (number_in c.in_ok-numbers.numbers)
    c.new-inputs.result c.in_ok-numbers.ensures c.new-inputs.ensures
    ∙ c.read_lines.ensures.refused r refused
