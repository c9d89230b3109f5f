-- What layers do with their regions, on a small device; the checker computes each line. Who reads which secret, and
-- what does a key sign?
use Rattle.std.specs.Prelude.{ℕ, List, [], ◌∷◌, Option, codes}
use Rattle.mb_model.specs.declared.event.Event.{Event}
use Rattle.mb_model.specs.declared.event.Event.TheVariants as event
use Rattle.mb_model.specs.declared.reply.Reply.{Reply}
use Rattle.mb_model.specs.declared.reply.Reply.TheVariants as reply
use Rattle.mb_model.specs.declared.state.State.{State}
use Rattle.mb_model.specs.records.ChainFormat.{statement_format}
use Rattle.mb_model.specs.machine.LayerEvents.{statement_of}
use Rattle.mb_model.specs.machine.Machine.{off, ratchet, Machine}
use Rattle.mb_model_examples.specs.Device.{secret, pin, token, key_one, with_secrets, secrets_of_two, key_of_three}
use Rattle.mb_model_examples.specs.Device.{with_letters, full_region, with_regions, after_uses, alive}
use Rattle.mb_model_examples.specs.Device.{two_doubted, world_at}
use Rattle.mb_model_examples.specs.StepExamples.{Refuses, armed_at, StopsBetween}

-- While layer r runs, an event leads from one state to another.
abbrev pub LeadsWorld : ℕ → State → Event → Reply → State → Type 0
LeadsWorld r before event answer after = Machine (world_at (ratchet r) before) event answer (world_at (ratchet r) after)

-- ---- secrets

-- the device with one more secret in region 2
abbrev pub with_seal : List ℕ → State
with_seal signature =
    with_regions (with_secrets (pin ∷ token ∷ secret (codes "seal") [] 4 ∷ [])) (key_of_three 0) signature

-- put: a secret is kept with the configuration number 4
pub record PutExamples (signature : List ℕ) : Type 0 where
  -- a secret that is replaced keeps its place
  pub replaced : LeadsWorld 2 (alive signature) (event.Put 2 (codes "pin") (codes "99")) reply.Kept
      (with_regions (with_secrets (secret (codes "pin") (codes "99") 4 ∷ token ∷ [])) (key_of_three 0) signature)
  -- a new one goes last
  pub new : LeadsWorld 1 (alive signature) (event.Put 2 (codes "seal") []) reply.Kept (with_seal signature)
  -- region 3 has secrets of its own
  pub above : LeadsWorld 2 (alive signature) (event.Put 3 (codes "pin") (codes "5")) reply.Kept
      (with_regions secrets_of_two
      (record { secrets = secret (codes "pin") (codes "5") 4 ∷ []; keys = key_one 0 ∷ [] }) signature)
  -- 16 secrets, as many as a record of version 1 holds, take one more
  pub seventeenth : LeadsWorld 2 (with_regions (with_letters (codes "abcdefghijklmnop")) full_region signature)
      (event.Put 2 (codes "q") []) reply.Kept
      (with_regions (with_letters (codes "abcdefghijklmnopq")) full_region signature)
  -- if there are 22, a new secret is refused, and one with a name that is there is not
  pub full : Refuses (world_at (ratchet 2) (with_regions full_region full_region signature))
      (event.Put 2 (codes "w") []) 5
  pub full_replaced : LeadsWorld 2 (with_regions full_region full_region signature) (event.Put 3 (codes "c") [])
      reply.Kept
      (with_regions full_region full_region signature)

pub record GetExamples (signature : List ℕ) : Type 0 where
  pub found : LeadsWorld 2 (alive signature) (event.Get 2 (codes "token")) (reply.Value (codes "abc")) (alive signature)
  pub absent : LeadsWorld 2 (alive signature) (event.Get 2 (codes "tok")) reply.Absent (alive signature)
  pub of_another_region : LeadsWorld 2 (alive signature) (event.Get 3 (codes "pin")) reply.Absent (alive signature)
  pub dropped : LeadsWorld 2 (alive signature) (event.Drop 2 (codes "pin")) reply.Dropped
      (with_regions (with_secrets (token ∷ [])) (key_of_three 0) signature)
  pub not_dropped : LeadsWorld 2 (alive signature) (event.Drop 2 (codes "pi")) reply.Absent (alive signature)

-- ---- statements

-- the bytes of the statement that the key signs after n uses
abbrev pub stated : ℕ → List ℕ → List ℕ → List ℕ
stated n message signature =
    statement_format.spelling (statement_of (after_uses n signature) (key_one n) message)

-- sign: the reply gives the key and the index that was used, and the key has used one more
pub record SignExamples (message signature : List ℕ) : Type 0 where
  pub first : LeadsWorld 3 (after_uses 0 signature) (event.Sign 3 1 message)
      (reply.Signed 1 0 (stated 0 message signature)) (after_uses 1 signature)
  pub last : LeadsWorld 1 (after_uses 31 signature) (event.Sign 3 1 message)
      (reply.Signed 1 31 (stated 31 message signature)) (after_uses 32 signature)
  pub spent : Refuses (world_at (ratchet 3) (after_uses 32 signature)) (event.Sign 3 1 message) 7
  -- a key that is not there is refused as such
  pub unknown : Refuses (world_at (ratchet 3) (after_uses 32 signature)) (event.Sign 3 2 message) 6
  pub of_another_region : Refuses (world_at (ratchet 2) (after_uses 32 signature)) (event.Sign 2 1 message) 6

-- ---- control past a layer, or a layer that may not run

-- while layer r runs, each event on region L is refused with 4
pub record IsClosed (r L : ℕ) (state : State) : Type 0 where
  pub put : (name value : List ℕ) → Refuses (world_at (ratchet r) state) (event.Put L name value) 4
  pub get : (name : List ℕ) → Refuses (world_at (ratchet r) state) (event.Get L name) 4
  pub drop : (name : List ℕ) → Refuses (world_at (ratchet r) state) (event.Drop L name) 4
  pub sign : (key : ℕ) (message : List ℕ) → Refuses (world_at (ratchet r) state) (event.Sign L key message) 4
  pub call : (key : Option ℕ) (input : List ℕ) → Refuses (world_at (ratchet r) state) (event.Call L key input) 4

pub record ClosedExamples (signature : List ℕ) : Type 0 where
  pub past : IsClosed 3 2 (alive signature)
  -- layer 2 is not reliable, so neither it nor layer 3 may run
  pub doubted : IsClosed 1 2 (two_doubted signature)
  pub over_doubted : IsClosed 1 3 (two_doubted signature)

-- ---- power that fails

-- a put or a signature that stops was done or was not; a boot that stops leaves the state
pub record StoppedExamples (signature : List ℕ) : Type 0 where
  pub put : StopsBetween (armed_at (ratchet 2) (alive signature)) (event.Put 2 (codes "seal") []) (alive signature)
      (with_seal signature)
  pub sign : (message : List ℕ) → StopsBetween (armed_at (ratchet 3) (after_uses 0 signature)) (event.Sign 3 1 message)
      (after_uses 0 signature) (after_uses 1 signature)
  pub boot : StopsBetween (armed_at off (alive signature)) event.Boot (alive signature) (alive signature)
