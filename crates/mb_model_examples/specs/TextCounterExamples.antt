-- Texts, draws and new devices for which the definitions do not hold; the checker refutes each line. Can a text be read
-- as anything?
use Rattle.std.specs.Prelude.{◌≡◌, ℕ, List, [], ◌∷◌, ◌++◌, length, codes, Option, Some}
use Rattle.mb_model.specs.declared.entry.Statement.{Statement}
use Rattle.mb_model.specs.declared.event.Event.{Event}
use Rattle.mb_model.specs.declared.event.Event.TheVariants as event
use Rattle.mb_model.specs.declared.event.Tear.{Tear}
use Rattle.mb_model.specs.declared.order.Order.{Order}
use Rattle.mb_model.specs.declared.order.Target.TheVariants as target
use Rattle.mb_model.specs.declared.state.State.{State}
use Rattle.mb_model.specs.memories.Memory.{IsImage, IsBlank, selector_of}
use Rattle.mb_model.specs.memories.WrittenImage.{FitsImage, IsWrittenFor}
use Rattle.mb_model.specs.chains.Lines.{HasLines, ReadsLines, TextFailsAtLine}
use Rattle.mb_model.specs.chains.Script.{IsScriptEvent, IsScript}
use Rattle.mb_model.specs.chains.Drafts.{SaysTarget, IsDraft}
use Rattle.mb_model.specs.chains.OrderLines.{IsOrderLine, IsStatementLine}
use Rattle.mb_model_commands.specs.declared.workload.Workload.{Workload}
use Rattle.mb_model_commands.specs.Workload.{DrawnBytes, DrawnValue, IsWorkload}
use Rattle.mb_model_lemmas.specs.SampleOrder.{surrender, surrender_line}

-- ---- lines and scripts

-- lines that a text does not have
pub record LineCounterExamples : Type 0 where
  -- no line begins after the last LF
  pub one_more : HasLines (codes "a" ++ 10 ∷ []) (codes "a" ∷ [] ∷ []) → ⊥
  -- a line has no LF
  pub glued : HasLines (codes "a" ++ 10 ∷ codes "b") ((codes "a" ++ 10 ∷ codes "b") ∷ []) → ⊥

abbrev pub boot_text : List ℕ
boot_text = codes "boot" ++ 10 ∷ []

-- events that a text does not mean, and events that no script gives
pub record ScriptCounterExamples : Type 0 where
  -- a line that says no event
  pub jump : (events : List Event) → ReadsLines IsScript (codes "boot" ++ 10 ∷ 10 ∷ codes "jump" ++ 10 ∷ []) events → ⊥
  -- another event, none, and one more
  pub other_event : ReadsLines IsScript boot_text (event.Off ∷ []) → ⊥
  pub left_out : ReadsLines IsScript boot_text [] → ⊥
  pub added : ReadsLines IsScript boot_text (event.Boot ∷ event.Boot ∷ []) → ⊥
  -- a line that is wrong, if none is
  pub wrong_line : (n : ℕ) → TextFailsAtLine IsScript boot_text n → ⊥
  -- a power loss in no write call, a region of layer 1, a number of more than 32 bits
  pub no_call : (tear : Tear) → IsScriptEvent (event.Cut 0 tear) → ⊥
  pub region_one : (name value : List ℕ) → IsScriptEvent (event.Put 1 name value) → ⊥
  pub large_key : (message : List ℕ) → IsScriptEvent (event.Sign 3 4294967296 message) → ⊥
  pub large_called_key : (input : List ℕ) → IsScriptEvent (event.Call 3 (Some 4294967296) input) → ⊥
  pub long_input : (key : Option ℕ) (input : List ℕ) → length input ≡ 4097
      → IsScriptEvent (event.Call 3 key input) → ⊥

-- ---- drafts, orders and statements

abbrev pub surrender_lines : List (List ℕ)
surrender_lines = codes "order surrender 2" ∷ codes "target length 7" ∷ []

-- lines that are not the draft of an order
pub record DraftCounterExamples : Type 0 where
  -- a load without its code
  pub no_code : (order : Order)
      → IsDraft (codes "order load 3" ∷ codes "version 258" ∷ codes "trust never" ∷ []) order → ⊥
  -- a surrender of another layer, with other targets, or signed
  pub other_layer : IsDraft surrender_lines (record surrender { layer = 3 }) → ⊥
  pub other_targets : IsDraft surrender_lines (record surrender { targets = [] }) → ⊥
  pub signed : IsDraft surrender_lines (record surrender { signature = 7 ∷ [] }) → ⊥
  -- a length of more than 32 bits in a target
  pub large_length : (line : List ℕ) → SaysTarget line (target.Length 4294967296) → ⊥

-- lines that are not those of an order, or of a statement
pub record OrderLineCounterExamples : Type 0 where
  -- no line, a line whose byte spells no order, and an order of another layer
  pub none : (order : Order) → IsOrderLine [] order → ⊥
  pub zero : (order : Order) → IsOrderLine (codes "command 00" ∷ []) order → ⊥
  pub other_layer : IsOrderLine (surrender_line ∷ []) (record surrender { layer = 3 }) → ⊥
  -- a dash means no bytes, which spell no statement
  pub dash : (statement : Statement) → IsStatementLine (codes "-" ∷ []) statement → ⊥

-- ---- what is drawn and made

-- bytes that are not drawn from words
pub record DrawCounterExamples : Type 0 where
  -- a word too few for 32 bytes
  pub few : (words bytes : List ℕ) → length words ≡ 7 → DrawnBytes 32 words bytes → ⊥
  -- other bytes than the word gives
  pub other_bytes : DrawnBytes 4 (1 ∷ []) (0 ∷ 0 ∷ 0 ∷ 2 ∷ []) → ⊥
  -- a value of one byte, if the word says that it is empty
  pub other_length : DrawnValue (129 ∷ []) (7 ∷ []) → ⊥

-- files that are not those of a workload
pub record WorkloadCounterExamples (number rounds : ℕ) (workload : Workload) : Type 0 where
  -- the script is empty, or the image is all zero
  pub no_script : workload.script ≡ [] → IsWorkload number rounds workload → ⊥
  pub blank : IsBlank workload.image → IsWorkload number rounds workload → ⊥

-- images that were not written from nothing for a state
pub record BirthCounterExamples (state : State) (image : List ℕ) : Type 0 where
  -- the image is all zero, as that of no live device is
  pub blank : IsBlank image → IsWrittenFor state image → ⊥
  -- the device has been in use: the second area of the root is the current one
  pub used : (flash bbram : List ℕ) → IsImage image flash bbram → selector_of bbram 1 ≡ 1 → IsWrittenFor state image → ⊥
  -- with a code that has one byte more than a slot, a state fits no image
  pub long : (code : List ℕ) → state.codes.two ≡ Some code → length code ≡ 32769 → FitsImage state → ⊥
