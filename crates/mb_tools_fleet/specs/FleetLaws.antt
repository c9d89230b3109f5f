-- What the definitions of these commands give. Are chains that are enrolled one after another served as the items of
-- `fleet` are, and does `devices` show each row? That a file holds what the command before has left is the host's: the
-- laws speak of definitions, and of one command.
use Rattle.std.specs.Prelude.{◌≡◌, ◌≢◌, ◌⊎◌, ◌↔◌, ℕ, List, [], ◌∷◌, ◌++◌, length, map, Option, Some}
use Rattle.mb_format.specs.Format.{IsBytes, Spells}
use Rattle.mb_model.specs.chains.Lines.{text_of}
use Rattle.mb_model.specs.declared.key.PublicKey.{PublicKey}
use Rattle.mb_model_commands.specs.Outside.{Outside}
use Rattle.mb_model_commands.specs.Commands.{Ended, CommandEnds, IsFaultless, at_first}
use Rattle.mb_model_commands.specs.Inputs.{root_input}
use Rattle.mb_fleet.specs.declared.row.Row.{Row}
use Rattle.mb_fleet.specs.declared.row.CodeHashes.{CodeHashes}
use Rattle.mb_fleet.specs.declared.item.Item.TheVariants.{Show}
use Rattle.mb_fleet.specs.RegisterFormat.{register_format}
use Rattle.mb_fleet.specs.Laws.{register_input}
use Rattle.mb_fleet.specs.Serving.{answer_line, FleetStep, FleetRun}
use Rattle.mb_fleet.specs.Showing.{Answer, newly_added, same, extended, chain_refused, older, forked, full}
use Rattle.mb_fleet.specs.Showing.{IsChainAnswered}
use Rattle.mb_tools_fleet.specs.EnrolCommand.{EnrolNames, enrol}
use Rattle.mb_tools_fleet.specs.RegisterCommands.{devices_lines}

-- ---- enrolments

-- Chains are shown to a register one after another, each to the rows that the one before has left: the answers, and the
-- rows at the end.
abbrev pub AreEnrolled : PublicKey → List Row → List (List ℕ) → List Answer → List Row → Type 0
AreEnrolled maker rows [] answers after = (answers ≡ []) × (after ≡ rows)
AreEnrolled maker rows (chain ∷ chains) answers after =
    (answer : Answer) × (rest : List Answer) × (between : List Row) × IsChainAnswered maker rows chain answer between
    × AreEnrolled maker between chains rest after × (answers ≡ answer ∷ rest)

-- the answer tells of rows that have changed
abbrev pub IsChange : Answer → Type 0
IsChange (newly_added serial n) = Unit {0}
IsChange (extended serial n) = Unit {0}
IsChange (same serial n) = ⊥
IsChange (chain_refused why) = ⊥
IsChange (older serial have) = ⊥
IsChange (forked serial place) = ⊥
IsChange full = ⊥

-- The command was done or refused, and no call of the host failed. Before, the host showed its files and what was
-- printed.
pub record IsToldEnrolment (names : EnrolNames) (files : List ℕ → Option (List ℕ)) (shown : List ℕ)
    (e : Ended) : Type 0 where
  pub ends : CommandEnds (enrol names) at_first e
  pub faultless : IsFaultless e.before e.after
  pub complete : (e.status ≡ 0) ⊎ (e.status ≡ 7)
  pub files_are : e.before.files ≡ Some files
  pub shown_is : e.before.printed ≡ Some shown

-- the file of this name holds a register with these rows, and all other files are as they were
pub record IsRegisterWritten (name : List ℕ) (after : List Row) (files : List ℕ → Option (List ℕ))
    (now : Outside) : Type 0 where
  pub left : List ℕ → Option (List ℕ)
  pub files_are : now.files ≡ Some left
  pub written : left name ≡ Some (register_format.spelling after)
  pub others : (other : List ℕ) → other ≢ name → left other ≡ files other

-- The files have a maker's key, a register and a chain. What was printed is the text that `fleet` prints of the one
-- item that shows this chain; and the rows after it are written, or are those that were read, and no file has changed.
pub record IsServedAsOneItem (names : EnrolNames) (files : List ℕ → Option (List ℕ)) (shown : List ℕ)
    (e : Ended) : Type 0 where
  pub maker : PublicKey
  pub rows : List Row
  pub after : List Row
  pub lines : List (List ℕ)
  pub root : List ℕ
  pub register : List ℕ
  pub chain : List ℕ
  pub root_there : files names.root ≡ Some root
  pub register_there : files names.register ≡ Some register
  pub chain_there : files names.chain ≡ Some chain
  pub root_is : (root_input names.root).Is root maker
  pub register_is : (register_input names.register).Is register rows
  pub step : FleetStep maker rows (Show chain) lines after
  pub printed : e.after.printed ≡ Some (shown ++ text_of lines)
  pub kept : ((after ≡ rows) × (e.after.files ≡ e.before.files))
      ⊎ ((after ≢ rows) × IsRegisterWritten names.register after files e.after)

-- ---- laws

-- Chains that are enrolled one after another are answered, and change the rows, as the items that show them; and each
-- run over such items is such a list of enrolments.
pub record EnrolmentsAreARun : Type 0 where
  pub run : (maker : PublicKey) (rows : List Row) (chains : List (List ℕ)) (answers : List Answer) (after : List Row)
      → AreEnrolled maker rows chains answers after
      → FleetRun maker rows (map (λ chain. Show chain) chains) (map answer_line answers) after
  pub enrolled : (maker : PublicKey) (rows : List Row) (chains lines : List (List ℕ)) (after : List Row)
      → FleetRun maker rows (map (λ chain. Show chain) chains) lines after
      → (answers : List Answer) × AreEnrolled maker rows chains answers after × (lines ≡ map answer_line answers)
  -- the rows have changed exactly after `added` and `extended`
  pub changed : (maker : PublicKey) (rows : List Row) (chain : List ℕ) (answer : Answer) (after : List Row)
      → IsChainAnswered maker rows chain answer after → IsChange answer ↔ (after ≢ rows)
  -- one command is one item
  pub one : (names : EnrolNames) (files : List ℕ → Option (List ℕ)) (shown : List ℕ) (e : Ended)
      → IsToldEnrolment names files shown e → IsServedAsOneItem names files shown e

-- the file that `register` writes is a register without devices
abbrev pub RegistersBeginEmpty : Type 0
RegistersBeginEmpty = (name : List ℕ) → (register_input name).Is (register_format.spelling []) []

-- ---- what is shown

-- what is shown of a device: all of its row but the hashes of the entries, of which the number is shown
pub record ShownRow : Type 0 where
  pub serial : List ℕ
  pub entries : ℕ
  pub number : ℕ
  pub code : CodeHashes

abbrev pub shown_of : Row → ShownRow
shown_of row =
    record { serial = row.serial; entries = length row.hashes; number = row.number; code = row.code }

-- Registers that `devices` shows alike have the same devices, in the same order, each with as many entries, one
-- configuration number and the same code. Nothing else is shown, so that they may differ in the hashes of entries.
pub record DevicesShowAllRows : Type 0 where
  pub told : (first second : List ℕ) (rows others : List Row) → IsBytes first → IsBytes second
      → Spells register_format first rows → Spells register_format second others
      → text_of (devices_lines rows) ≡ text_of (devices_lines others) → map shown_of rows ≡ map shown_of others
  pub hidden : (rows others : List Row) → map shown_of rows ≡ map shown_of others
      → devices_lines rows ≡ devices_lines others
