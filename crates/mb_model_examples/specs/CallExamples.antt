-- Calls on a small device; the checker computes each line. What does code ask for, and when is a call refused?
use Rattle.std.specs.Prelude.{◌≡◌, ℕ, List, [], ◌∷◌, ◌++◌, false, true, codes, None, Some}
use Rattle.mb_format.specs.Format.{Spells, FailsWhole}
use Rattle.mb_model.specs.declared.event.Event.TheVariants as event
use Rattle.mb_model.specs.declared.reply.Reply.TheVariants as reply
use Rattle.mb_model.specs.declared.reply.Refusal.TheVariants.{RunFailed}
use Rattle.mb_model.specs.declared.state.State.{State}
use Rattle.mb_model.specs.machine.Actions.{to_keep, to_drop, action_format, call_word}
use Rattle.mb_model.specs.machine.Calls.{after_demands, Acts, call_statement_of}
use Rattle.mb_model.specs.machine.LayerEvents.{takes_calls}
use Rattle.mb_model.specs.machine.Machine.{ratchet}
use Rattle.mb_model.specs.machine.Refusals.{refusal_reply}
use Rattle.mb_model.specs.records.ChainFormat.{statement_format}
use Rattle.mb_model_examples.specs.Device.{key_one, with_secrets, secret, full_region, with_regions, after_uses}
use Rattle.mb_model_examples.specs.Device.{alive, world_at, token, key_of_three, with_letters}
use Rattle.mb_model_examples.specs.StepExamples.{Refuses, armed_at, StopsBetween}
use Rattle.mb_model_examples.specs.LayerExamples.{LeadsWorld}

-- ---- code

-- which code takes calls: all that begins with the six bytes
pub record CodeExamples : Type 0 where
  pub none : takes_calls None ≡ false
  pub without : takes_calls (Some (0 ∷ [])) ≡ false
  -- five of the six bytes, and all six after another byte
  pub five : takes_calls (Some (0x01 ∷ 0x4D ∷ 0x42 ∷ 0x58 ∷ 0x31 ∷ [])) ≡ false
  pub later : takes_calls (Some (0x02 ∷ call_word)) ≡ false
  pub word : takes_calls (Some call_word) ≡ true
  pub with_more : (code : List ℕ) → takes_calls (Some (call_word ++ code)) ≡ true

-- ---- actions

-- outputs that are actions, and outputs that are none
pub record ActionExamples : Type 0 where
  -- two bytes 0 ask for nothing, and answer nothing
  pub nothing : Spells action_format (0 ∷ 0 ∷ []) (record { demands = []; answer = [] })
  -- `n` is kept with the value 07, `m` is dropped, and 09 is the answer
  pub both : Spells action_format (2 ∷ 1 ∷ 1 ∷ 110 ∷ 1 ∷ 7 ∷ 0 ∷ 1 ∷ 109 ∷ 1 ∷ 9 ∷ [])
      (record { demands = to_keep (codes "n") (7 ∷ []) ∷ to_drop (codes "m") ∷ []; answer = 9 ∷ [] })
  pub empty : FailsWhole action_format [] 0
  -- a byte follows the answer; the answer has 129 bytes
  pub left_over : FailsWhole action_format (0 ∷ 0 ∷ 0 ∷ []) 2
  pub long_answer : FailsWhole action_format (0 ∷ 129 ∷ []) 1
  -- no demand begins with the byte 2, no name is empty, and none has a space
  pub other_demand : FailsWhole action_format (1 ∷ 2 ∷ 1 ∷ 110 ∷ 0 ∷ []) 1
  pub no_name : FailsWhole action_format (1 ∷ 0 ∷ 0 ∷ 0 ∷ []) 2
  pub space_in_name : FailsWhole action_format (1 ∷ 0 ∷ 1 ∷ 32 ∷ 0 ∷ []) 3

-- what demands leave of region 2 of the device `alive`, which has the secrets `pin` and `token`
pub record DemandExamples (signature : List ℕ) : Type 0 where
  -- they are done in their order: `pin` is kept anew after it was dropped, and so goes last
  pub in_order : after_demands 2 (to_drop (codes "pin") ∷ to_keep (codes "pin") (codes "5") ∷ []) (alive signature)
      ≡ Some (with_regions (with_secrets (token ∷ secret (codes "pin") (codes "5") 4 ∷ [])) (key_of_three 0) signature)
  -- to drop what is not there does nothing
  pub not_there : after_demands 2 (to_drop (codes "pi") ∷ []) (alive signature) ≡ Some (alive signature)
  -- a region of 22 secrets takes no new one, and takes one once another is dropped
  pub full : after_demands 2 (to_keep (codes "w") [] ∷ []) (with_regions full_region full_region signature) ≡ None
  pub made_room :
      after_demands 2 (to_drop (codes "v") ∷ to_keep (codes "w") [] ∷ [])
      (with_regions full_region full_region signature)
      ≡ Some (with_regions (with_letters (codes "abcdefghijklmnopqrstuw")) full_region signature)
  -- if one demand cannot be met, none is done, and nothing is told of the run
  pub none_is_done : (input output : List ℕ)
      → Spells action_format output
      (record { demands = to_drop (codes "a") ∷ to_keep (codes "w") [] ∷ to_keep (codes "x") [] ∷ []; answer = [] })
      → let full : State = with_regions full_region full_region signature in
      Acts full 2 None input output (refusal_reply RunFailed, full)

-- ---- calls

-- the device after this many signatures of its key, with this code in layer 3
abbrev pub with_code : ℕ → List ℕ → List ℕ → State
with_code uses code signature =
    record (after_uses uses signature) { codes = record { one = None; two = None; three = Some code } }

-- code that emits two bytes 0, and halts: it asks for nothing, and answers nothing
abbrev pub answering : List ℕ
answering = call_word ++ 0x01 ∷ 0 ∷ 0 ∷ 0 ∷ 0 ∷ 0x42 ∷ 0x01 ∷ 0 ∷ 0 ∷ 0 ∷ 0 ∷ 0x42 ∷ 0x00 ∷ []

-- the statement of the empty answer by the key after n uses
abbrev pub answered : ℕ → List ℕ → List ℕ → List ℕ
answered n input signature =
    statement_format.spelling (call_statement_of (with_code n answering signature) (key_one n) input [])

-- a call in each refusal, and two that are answered
pub record CallExamples (input signature : List ℕ) : Type 0 where
  -- layer 3 has no code, code without the word, or code with five of its six bytes
  pub no_code : Refuses (world_at (ratchet 1) (alive signature)) (event.Call 3 None input) 8
  pub old_code : Refuses (world_at (ratchet 1) (with_code 0 (0 ∷ []) signature)) (event.Call 3 None input) 8
  pub five : Refuses
      (world_at (ratchet 1) (with_code 0 (0x01 ∷ 0x4D ∷ 0x42 ∷ 0x58 ∷ 0x31 ∷ []) signature))
      (event.Call 3 None input) 8
  -- whatever the code does, a key that is not there is refused, and so is a spent one
  pub no_key : (code : List ℕ)
      → Refuses (world_at (ratchet 3) (with_code 0 (call_word ++ code) signature)) (event.Call 3 (Some 2) input) 6
  pub spent : (code : List ℕ)
      → Refuses (world_at (ratchet 3) (with_code 32 (call_word ++ code) signature)) (event.Call 3 (Some 1) input) 7
  -- the code traps, since nothing follows the word; it has no end; it emits nothing, which is no action
  pub trap : Refuses (world_at (ratchet 2) (with_code 0 call_word signature)) (event.Call 3 None input) 9
  pub loop : Refuses (world_at (ratchet 2) (with_code 0 (call_word ++ 0x20 ∷ 0 ∷ 6 ∷ []) signature))
      (event.Call 3 None input) 9
  pub no_action : Refuses (world_at (ratchet 2) (with_code 0 (call_word ++ 0x00 ∷ []) signature))
      (event.Call 3 (Some 1) input) 9
  -- without a key, and with one, which has used one more
  pub called : LeadsWorld 1 (with_code 0 answering signature) (event.Call 3 None input) (reply.Called [])
      (with_code 0 answering signature)
  pub signed : LeadsWorld 3 (with_code 31 answering signature) (event.Call 3 (Some 1) input)
      (reply.Signed 1 31 (answered 31 input signature)) (with_code 32 answering signature)

-- while layer r runs, each other event on region 3 is refused with 8
pub record IsForCallsAlone (r : ℕ) (state : State) : Type 0 where
  pub put : (name value : List ℕ) → Refuses (world_at (ratchet r) state) (event.Put 3 name value) 8
  pub get : (name : List ℕ) → Refuses (world_at (ratchet r) state) (event.Get 3 name) 8
  pub drop : (name : List ℕ) → Refuses (world_at (ratchet r) state) (event.Drop 3 name) 8
  pub sign : (key : ℕ) (message : List ℕ) → Refuses (world_at (ratchet r) state) (event.Sign 3 key message) 8

pub record SealedExamples (code signature : List ℕ) : Type 0 where
  pub from_two : IsForCallsAlone 2 (with_code 0 (call_word ++ code) signature)
  pub from_three : IsForCallsAlone 3 (with_code 0 (call_word ++ code) signature)
  -- region 2 is open, since layer 2 has no such code
  pub beneath : LeadsWorld 2 (with_code 0 (call_word ++ code) signature) (event.Drop 2 (codes "pi")) reply.Absent
      (with_code 0 (call_word ++ code) signature)

-- a call that stops was done or was not
pub record StoppedCallExamples (input signature : List ℕ) : Type 0 where
  pub call : StopsBetween (armed_at (ratchet 3) (with_code 0 answering signature)) (event.Call 3 (Some 1) input)
      (with_code 0 answering signature) (with_code 1 answering signature)
