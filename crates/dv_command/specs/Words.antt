-- What the words behind a subcommand say: values that belong to no option, flags, and options with their values, in any order.
use Rattle.std.specs.Prelude.{ℕ, ◌==◌, Bool, true, false, if◌then◌else◌, List, [], ◌∷◌, ◌++◌, Option, Some, None, option_map}
use Rattle.std.specs.Prelude.{option_to_list, filter_map, bytes_eq, codes, length, nat_lt}
use Rattle.std.specs.List.{before_first, after_first, position_or_len}
use Rattle.dv_command.specs.declared.subcommand.Subcommand.{Subcommand}
use Rattle.dv_command.specs.Subcommands.{is_flag, takes_value}

-- one thing that words say
pub data Said : Type 0 where
  -- a value by itself
  Value : List ℕ → Said
  -- `--name`
  Flag : List ℕ → Said
  -- `--name value` or `--name=value`
  Setting : List ℕ → List ℕ → Said

-- how the next word is read
pub data Reading : Type 0 where
  Ready : Reading
  -- it is the value of this option
  Awaits : List ℕ → Reading
  -- `--` stands before it, so it is a value by itself, whatever it looks like
  Ended : Reading

-- a word that is no option: it does not begin with `-`, or is that alone
abbrev pub is_value : List ℕ → Bool
is_value [] = true
is_value (b ∷ []) = true
is_value (b ∷ c ∷ bytes) = if b == 45 then false else true

-- the thing that a word completes, if it completes one, and how the next word is read
pub record Step : Type 0 where
  pub said : Option Said
  pub next : Reading

abbrev pub says : Said → Option Step
says said = Some (record { said = Some said; next = Ready })

-- `name=value`, if an option of this name takes a value
abbrev pub joined_step : Subcommand → List ℕ → Option Step
joined_step subcommand word =
    if nat_lt (position_or_len (λ b. b == 61) word) (length word)
    then (if takes_value subcommand (before_first (λ b. b == 61) word)
    then says (Setting (before_first (λ b. b == 61) word) (after_first (λ b. b == 61) word))
    else None)
    else None

-- a word that is an option
abbrev pub option_step : Subcommand → List ℕ → Option Step
option_step subcommand word =
    if bytes_eq word (codes "--") then Some (record { said = None; next = Ended })
    else if is_flag subcommand word then says (Flag word)
    else if takes_value subcommand word then Some (record { said = None; next = Awaits word })
    else joined_step subcommand word

-- the next word; `None` if it is not allowed here
abbrev pub step : Subcommand → Reading → List ℕ → Option Step
step subcommand Ready word = if is_value word then says (Value word) else option_step subcommand word
step subcommand (Awaits name) word = if is_value word then says (Setting name word) else None
step subcommand Ended word = Some (record { said = Some (Value word); next = Ended })

-- goes on behind a word that was read
abbrev pub then_read : Option Step → (Reading → Option (List Said)) → Option (List Said)
then_read None rest = None
then_read (Some step) rest = option_map (λ more. option_to_list step.said ++ more) (rest step.next)

-- what is said when the words end; `None` if the value of an option is missing
abbrev pub at_end : Reading → Option (List Said)
at_end Ready = Some []
at_end Ended = Some []
at_end (Awaits name) = None

-- what words say; `None` if one of them is not allowed where it is, or if the value of an option is missing
abbrev pub said_by : Subcommand → Reading → List (List ℕ) → Option (List Said)
said_by subcommand reading [] = at_end reading
said_by subcommand reading (word ∷ words) = then_read (step subcommand reading word) (λ next. said_by subcommand next words)

-- the value by itself that is said, if it is one
abbrev pub value_in : Said → Option (List ℕ)
value_in (Value text) = Some text
value_in (Flag name) = None
value_in (Setting name text) = None

-- what is said to the option of this name; a flag says its name
abbrev pub named_in : List ℕ → Said → Option (List ℕ)
named_in wanted (Value text) = None
named_in wanted (Flag name) = if bytes_eq name wanted then Some name else None
named_in wanted (Setting name text) = if bytes_eq name wanted then Some text else None

-- the values that belong to no option, in their order
abbrev pub values : List Said → List (List ℕ)
values said = filter_map value_in said

-- all that is said to the option of this name
abbrev pub given : List ℕ → List Said → List (List ℕ)
given name said = filter_map (named_in name) said

-- the only one, if there is one; `None` if there are more
abbrev pub at_most_one : List (List ℕ) → Option (Option (List ℕ))
at_most_one [] = Some None
at_most_one (text ∷ []) = Some (Some text)
at_most_one (text ∷ second ∷ texts) = None
