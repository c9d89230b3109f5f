-- Steps, runs and logs for which the definitions do not hold; the checker refutes each line. Is any definition true of
-- everything that a device might do?
use Rattle.std.specs.Prelude.{◌≡◌, ◌≢◌, ℕ, ◌<◌, List, [], ◌∷◌, ◌++◌, length, take, get_or, None, Some, true}
use Rattle.std.specs.Prelude.{false}
use Rattle.mb_model.specs.declared.key.PublicKey.{PublicKey}
use Rattle.mb_model.specs.declared.order.ChangeKind.TheVariants.{Load}
use Rattle.mb_model.specs.declared.order.KeyKind.{KeyKind}
use Rattle.mb_model.specs.declared.order.KeyKind.TheVariants.{Epoch}
use Rattle.mb_model.specs.declared.order.Order.{Order}
use Rattle.mb_model.specs.declared.entry.Entry.{Entry}
use Rattle.mb_model.specs.declared.entry.Entry.TheVariants.{Change}
use Rattle.mb_model.specs.declared.entry.SignedEntry.{SignedEntry}
use Rattle.mb_model.specs.declared.event.Answered.{Answered}
use Rattle.mb_model.specs.declared.event.Event.{Event}
use Rattle.mb_model.specs.declared.event.Event.TheVariants as event
use Rattle.mb_model.specs.declared.reply.Reply.{Reply}
use Rattle.mb_model.specs.declared.reply.Reply.TheVariants as reply
use Rattle.mb_model.specs.declared.state.State.{State}
use Rattle.mb_model.specs.declared.reply.OrderRefusal.{OrderRefusal}
use Rattle.mb_model.specs.declared.reply.OrderRefusal.TheVariants.{WrongTarget, WrongCountersignature}
use Rattle.mb_model.specs.owners.Log.{device_in}
use Rattle.mb_model.specs.owners.Lives.{Alive}
use Rattle.mb_model.specs.owners.Regions.{empty_region, KeyAdmitted, RegionKeptRightly}
use Rattle.mb_model.specs.machine.OrderChecks.{view_of, Passes, Fails}
use Rattle.mb_model.specs.machine.OrderStep.{OrderStep}
use Rattle.mb_model.specs.machine.Machine.{World, off, ratchet, LosesPower, Step, Run}
use Rattle.mb_model.specs.memories.Memory.{life_byte}
use Rattle.mb_model.specs.outside.Board.{Held, image_of}
use Rattle.mb_model.specs.machine.Runs.{BeginsWith, LogGoesOn, HasInCharge, SignsEntriesOnce, SignsStatementsOnce}
use Rattle.mb_model.specs.machine.Runs.{SignsAfterUses, HoldsLivingKeys}
use Rattle.mb_model_commands.specs.Inputs.{Image}
use Rattle.mb_model_commands.specs.RunCommand.{IsCleanImage, IsServed}
use Rattle.mb_model_examples.specs.RuleExamples.{officer, nobody, by_two, three_renewed, life}
use Rattle.mb_model_examples.specs.Device.{signed_with, token, key_one}
use Rattle.mb_model_examples.specs.Device.{with_secrets, with_keys, with_regions, after_uses}
use Rattle.mb_model_examples.specs.Device.{world_at, dead_world}
use Rattle.mb_model_examples.specs.MemoryCounterExamples.{IsLeftOver}

-- ---- steps

-- answers that no order has
pub record OrderCounterExamples (state next : State) (text draw : List ℕ) : Type 0 where
  -- the answer of a boot
  pub booted : OrderStep state text draw reply.Booted next → ⊥
  -- a refusal that changes something
  pub changed : next ≢ state → OrderStep state text draw (reply.Refused 12) next → ⊥
  -- a length that the log does not have
  pub other_length : (number size : ℕ) → size ≢ length next.log
      → OrderStep state text draw (reply.Done number size) next → ⊥
  -- the empty list of bytes spells no order, and is not obeyed
  pub no_bytes : (number size : ℕ) → OrderStep state [] draw (reply.Done number size) next → ⊥

-- checks that an order does not fail
pub record RefusalCounterExamples (state : State) (order : Order) : Type 0 where
  -- a target, if the order has none
  pub no_target : (i : ℕ) → order.targets ≡ [] → Fails (view_of state) order (WrongTarget i) → ⊥
  -- a countersignature of layer 3, if the order has none
  pub no_countersignature : order.countersignatures ≡ [] → Fails (view_of state) order (WrongCountersignature 3) → ⊥
  -- any check, if the order passes all
  pub passing : (refusal : OrderRefusal) → Passes (view_of state) order → Fails (view_of state) order refusal → ⊥

-- answers that no event has, and worlds to which no event leads
pub record StepCounterExamples (world next : World) : Type 0 where
  -- `off` is answered as a boot is
  pub other_reply : Step world event.Off reply.Booted next → ⊥
  -- a status that changes something
  pub changed : next ≢ world → (answer : Reply) → Step world event.Status answer next → ⊥
  -- a stop that leaves power on, or the power loss armed
  pub stopped_on : next.phase ≡ ratchet 1 → (given : Event) → Step world given reply.Stopped next → ⊥
  pub still_armed : next.armed ≡ true → (given : Event) → Step world given reply.Stopped next → ⊥
  -- a power loss if none is armed, and one that is not answered as a stop
  pub unarmed : world.armed ≡ false → (given : Event) (answer : Reply) → LosesPower world given answer next → ⊥
  pub not_told : (given : Event) → LosesPower world given reply.Booted next → ⊥

-- ---- runs

abbrev pub answered_by : Event → Reply → Answered
answered_by given answer = record { event = given; reply = answer }

abbrev pub booted : Answered
booted = answered_by event.Boot reply.Booted

abbrev pub turned_off : Answered
turned_off = answered_by event.Off reply.Off

-- what no run does
pub record RunCounterExamples (world next : World) : Type 0 where
  -- nothing happens, and something has changed
  pub nothing : next ≢ world → Run world [] next → ⊥
  -- the device boots twice, and power did not go off in between
  pub twice : Run world (booted ∷ booted ∷ []) next → ⊥

-- how events are not served
pub record ServedCounterExamples (image : Image) (final : Held) : Type 0 where
  -- an event is left out, one is answered that was not there, two are answered in the wrong order
  pub unanswered : IsServed image (event.Boot ∷ []) [] final → ⊥
  pub invented : IsServed image [] (turned_off ∷ []) final → ⊥
  pub swapped : IsServed image (event.Boot ∷ event.Off ∷ []) (turned_off ∷ booted ∷ []) final → ⊥
  -- nothing happened, and power is on
  pub still_on : final.phase ≡ ratchet 1 → IsServed image [] [] final → ⊥
  -- the device booted, and a byte of an old region is left
  pub unclean : (offset : ℕ) → life_byte final.memory.bbram ≡ 0xA5 → IsLeftOver final.memory.bbram offset
      → IsServed image (event.Boot ∷ []) (booted ∷ []) final → ⊥
  -- the device booted, power went off, and a byte of an old region is left
  pub unclean_off : (offset : ℕ) → life_byte final.memory.bbram ≡ 0xA5 → IsLeftOver final.memory.bbram offset
      → IsServed image (event.Boot ∷ event.Off ∷ []) (booted ∷ turned_off ∷ []) final → ⊥
  -- the flash begins with 300, which is no byte
  pub no_byte : get_or final.memory.flash 0 0 ≡ 300 → (events : List Event) (answered : List Answered)
      → IsServed image events answered final → ⊥
  -- power went off, and the memory is not what was loaded
  pub changed : image_of final.memory ≢ image.bytes → IsServed image (event.Off ∷ []) (turned_off ∷ []) final → ⊥
  -- a device with a clean image booted, and the memory is not what was loaded
  pub rewritten : IsCleanImage image → image_of final.memory ≢ image.bytes
      → IsServed image (event.Boot ∷ []) (booted ∷ []) final → ⊥

-- ---- logs

-- logs that do not go on from earlier ones
pub record LogCounterExamples : Type 0 where
  -- a log that got shorter, and one with another birth
  pub shortened : (earlier later : State) → length later.log < length earlier.log
      → LogGoesOn (world_at off earlier) (world_at off later) → ⊥
  pub rewritten : (birth other : SignedEntry) → other ≢ birth → BeginsWith (other ∷ []) (birth ∷ []) → ⊥
  -- a dead device lives again
  pub revived : (state : State) → LogGoesOn (dead_world off) (world_at off state) → ⊥

-- an entry that does not have the key of another in charge
pub record ChargeCounterExamples (log front : List SignedEntry) (namer signed : SignedEntry) : Type 0 where
  -- an entry between them replaces the key
  pub replaced : (other : SignedEntry) (key : PublicKey) → device_in other.entry ≡ Some key
      → HasInCharge log front namer (other ∷ []) signed → ⊥
  -- the other names no device key
  pub unnamed : (between : List SignedEntry) → device_in namer.entry ≡ None
      → HasInCharge log front namer between signed → ⊥

-- a statement of the key with the number 1 at an index
abbrev pub stated_at : ℕ → List ℕ → Answered
stated_at index bytes = answered_by (event.Sign 3 1 []) (reply.Signed 1 index bytes)

-- a key that signs twice with one index
pub record IndexCounterExamples (signature : List ℕ) : Type 0 where
  -- two entries with one signature, under the device key of the birth
  pub entries : SignsEntriesOnce (signed_with signature (take 3 life)) → ⊥
  -- two statements at one index, and two whose later has the lower index
  pub statements : (one other : List ℕ) → SignsStatementsOnce (stated_at 4 one ∷ stated_at 4 other ∷ []) → ⊥
  pub backwards : (one other : List ℕ) → SignsStatementsOnce (stated_at 4 one ∷ stated_at 3 other ∷ []) → ⊥
  -- a statement at an index that was used before the run
  pub used_before : (bytes : List ℕ) → SignsAfterUses (Some (after_uses 5 signature)) (stated_at 4 bytes ∷ []) → ⊥

-- ---- keys and secrets

-- `life`, and a load of layer 2 that the owner of layer 3 has not countersigned: region 3 is not kept
abbrev pub betrayed_life : List Entry
betrayed_life = life ++ Change 2 8 7 Load 2 nobody three_renewed by_two None ∷ []

-- a key that is alive, and keys that are not
pub record AliveCounterExamples : Type 0 where
  pub alive : Alive life 1 3 Epoch (officer 11)
  -- the key of layer 3 after the load of layer 2
  pub ended : Alive betrayed_life 1 3 Epoch (officer 11) → ⊥
  -- another number, another layer, another key
  pub other_number : (kind : KeyKind) (key : PublicKey) → Alive life 2 3 kind key → ⊥
  pub other_layer : (kind : KeyKind) (key : PublicKey) → Alive life 1 2 kind key → ⊥
  pub other_key : Alive life 1 3 Epoch (officer 12) → ⊥

-- regions that do not hold what the log says
pub record RegionCounterExamples (signature : List ℕ) : Type 0 where
  -- a key that is alive by the log is not there
  pub missing : HoldsLivingKeys (with_regions empty_region empty_region signature) 3 → ⊥
  -- the key of layer 3 stands in region 2
  pub misplaced : HoldsLivingKeys (with_regions (with_keys (key_one 0 ∷ [])) empty_region signature) 2 → ⊥
  -- a key and a secret of region 3 outlive the load of layer 2
  pub key_outlives : KeyAdmitted betrayed_life 3 1 → ⊥
  pub secret_outlives : RegionKeptRightly betrayed_life 3 (with_secrets (token ∷ [])) → ⊥
