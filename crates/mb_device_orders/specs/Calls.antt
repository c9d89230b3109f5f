-- What the calls of this crate promise, where that is longer than a line.
use Rattle.std.specs.Prelude.{◌≡◌, ℕ, ◌+◌, ◌*◌, ◌≤◌, ◌⊎◌, List, true, false, None, IsSome}
use Rattle.std.specs.Prelude.{Result, IfOk, IfErr, OnOk, OnErr}
use Rattle.mb_area.specs.Roots.{IsOnlyRoot}
use Rattle.mb_board.specs.Calls.{Seen, Ran}
use Rattle.mb_boot.specs.Signers.{HasSigners, HoldsDeviceTree}
use Rattle.mb_layout.specs.declared.room.Room.{Room}
use Rattle.mb_lms.specs.declared.hash_count.TheConstants.{LEAF_HASHES, SIGNING_HASHES, TREE_HASHES}
use Rattle.mb_model.specs.chains.Listing.{is_done}
use Rattle.mb_model.specs.declared.key.KeySeed.{KeySeed}
use Rattle.mb_model.specs.declared.order.Order.{Order}
use Rattle.mb_model.specs.declared.reply.Reply.{Reply}
use Rattle.mb_model.specs.declared.state.State.{State}
use Rattle.mb_model.specs.declared.stored.Root.{Root}
use Rattle.mb_model.specs.machine.OrderEffects.{state_after_order}
use Rattle.mb_model.specs.memories.Spared.{SparesSectors}
use Rattle.mb_model.specs.memories.StoredLog.{outgoing_of}
use Rattle.mb_model.specs.outside.Board.{Memory}
use Rattle.mb_model.specs.owners.Log.{keys_made_by}
use Rattle.mb_model_memory.specs.Answering.{TellsOfWrites}
use Rattle.mb_model_memory.specs.Holding.{Means, IsReady}
use Rattle.mb_signer.specs.Benches.{HasTree, HasRoom, IsBare, KeepsTrees}
use Rattle.mb_signer.specs.declared.bench.Bench.{Bench}
use Rattle.mb_device_orders.specs.declared.judging.Judged.{Judged}
use Rattle.mb_device_orders.specs.declared.remembering.Known.{Known}
use Rattle.mb_device_orders.specs.Obeying.{Obeys, LeavesKnown, MakesKeys}
use Rattle.mb_device_orders.specs.Planning.{JudgesText, IsCommit}
use Rattle.mb_device_orders.specs.Remembering.{Knows, KnowsCode}

-- The bytes of an order are judged. Hashes are counted for the keys that an order makes that passes, and for no other.
pub record Judges
    (memory : Memory) (known known_after : Known) (text draw : List ℕ) (result : Result Judged Reply)
    (bench bench_after : Bench) (hashes hashes_after : ℕ) : Type 0 where
  pub judged : (state : State) → IsReady memory state → Knows known state → JudgesText state text draw result
  pub undone : IfErr result (λ answer. is_done answer ≡ false)
  pub root : IfOk result (λ judged. IsOnlyRoot memory.bbram judged.root)
  pub at_hand : IfOk
      result
      (λ judged. IsSome judged.plan.bodies.outgoing → HasTree bench_after judged.plan.bodies.device)
  pub room : IsBare bench → HasRoom bench_after
  pub stays : known_after ≡ known
  pub cost : hashes_after ≤ hashes + 2 * TREE_HASHES
  pub keys : IfOk result (λ judged. hashes_after ≤ hashes + keys_made_by judged.plan.bodies.entries * TREE_HASHES)
  pub unhashed : OnErr result (hashes_after ≡ hashes)

-- A tree of the device key that is kept is moved to the bench. Nothing else of what is remembered changes.
pub record Lends (device : KeySeed) (known known_after : Known) (bench bench_after : Bench) : Type 0 where
  pub serial : known_after.serial ≡ known.serial
  pub figures : known_after.figures ≡ known.figures
  pub lent : IsSome known.trees.value.device → HasTree bench_after device
  pub beside : HasRoom bench → KeepsTrees bench bench_after
  pub room : HasRoom bench → HasRoom bench_after ⊎ HasTree bench_after device

-- An order is committed, and its pending work completed, with the trees on the bench.
pub record Commits
    (root : Root) (room : Room) {A E : Type 0} (result : Result A E) (before after : Seen) (bench bench_after : Bench)
    (hashes hashes_after : ℕ) : Type 0 where
  pub done : (state : State) (order : Order) (draw : List ℕ) → IsCommit before.memory root room state order draw
      → OnOk result (IsReady after.memory (state_after_order state order draw))
  pub counts : (state : State) (order : Order) (draw : List ℕ) → IsCommit before.memory root room state order draw
      → Means after.memory state ⊎ Means after.memory (state_after_order state order draw)
  pub spared : SparesSectors before.memory after.memory
  pub ran : Ran 35 result before after
  pub kept : outgoing_of root.pending ≡ None → OnOk result (HasTree bench_after root.device)
  pub held : HoldsDeviceTree bench root → OnOk result (HasTree bench_after root.device)
  pub cost : hashes_after ≤ hashes + 2 * SIGNING_HASHES
  pub again : HasSigners bench root → hashes_after ≤ hashes + 2 * LEAF_HASHES

-- The bytes of an order are answered.
pub record AnswersOrder
    (known known_after : Known) (text draw : List ℕ) {S E : Type 0} (result : Result (S × Reply) E)
    (before after : Seen) (hashes hashes_after : ℕ) : Type 0 where
  pub told : (state : State) → IsReady before.memory state → Knows known state
      → KnowsCode known before.memory.flash state
      → Obeys state text draw known_after before.memory after.memory result
  pub stays : LeavesKnown result known known_after
  pub keeps : IfOk result (λ told. is_done told.1 ≡ true → IsSome known_after.trees.value.device)
  pub writes : TellsOfWrites result before.memory after.memory before.meter after.meter
  pub spared : SparesSectors before.memory after.memory
  pub ran : Ran 35 result before after
  pub cost : hashes_after ≤ hashes + 2 * TREE_HASHES + 2 * SIGNING_HASHES
  pub again : (state : State) (keys : ℕ) → IsReady before.memory state → Knows known state
      → IsSome known.trees.value.device → MakesKeys state text draw keys
      → hashes_after ≤ hashes + keys * TREE_HASHES + 2 * LEAF_HASHES
