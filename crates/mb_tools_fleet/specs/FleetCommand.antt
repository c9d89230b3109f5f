-- What the command `fleet` does. Are the items served one after another over the register, and is the register kept
-- before an answer is printed?
use Rattle.std.specs.Prelude.{◌≢◌, ℕ, List, Option}
use Rattle.mb_model.specs.declared.key.PublicKey.{PublicKey}
use Rattle.mb_model_commands.specs.declared.role.Role.TheVariants as role
use Rattle.mb_model_commands.specs.Commands.{Command, read, find, write, print, lack, Ended, CommandEnds}
use Rattle.mb_model_commands.specs.Commands.{ComesToRefusal}
use Rattle.mb_model_commands.specs.Commands.{at_first}
use Rattle.mb_model_commands.specs.Inputs.{root_input}
use Rattle.mb_fleet.specs.declared.row.Row.{Row}
use Rattle.mb_fleet.specs.declared.item.Item.{Item}
use Rattle.mb_fleet.specs.RegisterFormat.{register_format}
use Rattle.mb_fleet.specs.Serving.{AreServed, IsTooLong}
use Rattle.mb_fleet.specs.Laws.{register_input, items_input}

-- the names of the files
pub record FleetNames : Type 0 where
  pub root : List ℕ
  pub register : List ℕ
  pub items : List ℕ

-- What serving items comes to. Answers that are too long are an outcome beside those that are short enough: a choice by
-- whether they are too long would have to say on its other side that they are not.
pub data FleetOutcome : Type 0 where
  -- the text of all answers, and the rows at the end
  all_served : List ℕ → List Row → FleetOutcome
  -- the text of all answers would be too long
  text_too_long : FleetOutcome

-- the items come to this over a register with these rows
abbrev pub ServingComesTo : PublicKey → List Row → List Item → FleetOutcome → Type 0
ServingComesTo maker rows listed (all_served text after) = AreServed maker rows listed text after
ServingComesTo maker rows listed text_too_long = IsTooLong maker rows listed

-- The register is written, changed or not, and then the answers are printed; if these are too long, memory is lacking.
-- The register is written before an answer is printed, so that whoever sees one knows that the register has it. A write
-- for each item would leave a register of half the items if memory lacks. It is written even if nothing has changed: so
-- status 0 says of each call that the file holds the register, and a file that cannot be written is found at once.
abbrev pub keep_register : List ℕ → FleetOutcome → Command
keep_register name (all_served text after) =
    write (record { role = role.Register; name = name; bytes = register_format.spelling after }) (print text)
keep_register name text_too_long = lack

-- The maker's public key, the register and the items are read, and the items are served. Answers to items are no
-- refusals of the command: the reason for which one chain is refused says nothing of the others, and a caller reads a
-- line for each.
unfoldable pub fleet : FleetNames → Command
fleet names =
    read (root_input names.root) (λ maker.
    read (register_input names.register) (λ rows.
    read (items_input names.items) (λ listed.
    find (ServingComesTo maker rows listed) (keep_register names.register))))

-- ---- what follows

-- whatever the items' answers are, the command is not refused: it never ends with status 7
pub record FleetIsNotRefused : Type 0 where
  pub ends : (names : FleetNames) (e : Ended) → CommandEnds (fleet names) at_first e → e.status ≢ 7
  pub comes : (names : FleetNames) (files : List ℕ → Option (List ℕ)) → ComesToRefusal (fleet names) files → ⊥
