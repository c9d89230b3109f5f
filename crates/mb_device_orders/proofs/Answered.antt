-- How an order is answered.
use Rattle.std.proofs.Common.{◌≡◌, ◌⊎◌, ◌+◌, ◌*◌, ◌≤◌, inl, inr, ℕ, List, length, false, Ok, refl, sym, ap, subst, ◌∙◌, arith}
use Rattle.std.proofs.lemmas.List.{length-map}
use Rattle.mb_model.specs.declared.entry.SignedEntry.{SignedEntry}
use Rattle.mb_model.specs.declared.reply.Reply.{Reply}
use Rattle.mb_model.specs.declared.reply.Reply.TheVariants as reply
use Rattle.mb_model.specs.declared.state.State.{State}
use Rattle.mb_model.specs.declared.stored.Root.{Root}
use Rattle.mb_model.specs.outside.Board.{Memory}
use Rattle.mb_model.specs.chains.Listing.{is_done}
use Rattle.mb_model.specs.owners.Log.{entries_of, figures_of, number_of}
use Rattle.mb_board.specs.Calls.{Seen, IsUp}
use Rattle.mb_boot.proofs.Joined.{ran_not}
use Rattle.mb_lms.specs.declared.hash_count.TheConstants.{TREE_HASHES}
use Rattle.mb_model.specs.machine.OrderEffects.{state_after_order}
use Rattle.mb_model.specs.machine.OrderStep.{OrderStep, is_obeyed}
use Rattle.mb_model.specs.declared.state.Figures.{Figures}
use Rattle.mb_model_memory.specs.Holding.{Means, IsReady}
use Rattle.mb_layout.specs.declared.room.Room.{Room}
use Rattle.mb_area.specs.Roots.{IsOnlyRoot}
use Rattle.mb_device_orders.specs.declared.judging.Judged.{Judged}
use Rattle.mb_device_orders.specs.declared.remembering.Known.{Known}
use Rattle.mb_device_orders.specs.Remembering.{Knows, KnowsCode, IsRemembered}
use Rattle.mb_device_orders.specs.Calls.{AnswersOrder}
use Rattle.mb_device_orders.specs.Obeying.{MakesKeys, IsOrderAnswered, answer_lacks, answer_tells, IsOrderCut}
use Rattle.mb_device_orders.specs.Planning.{PassesAs, HasPassed, IsCommit, HasCommit}
use Rattle.mb_device_orders.proofs.Spared.{same_memory_spared}

-- ---- what a device that remembers its state has of one

pub has_passed : (known : Known) (memory : Memory) (text draw : List ℕ) (judged : Judged) → IsRemembered known memory → ((state : State) → IsReady memory state → Knows known state → PassesAs state text draw judged)
    → IsOnlyRoot memory.bbram judged.root → HasPassed memory judged
has_passed known memory text draw judged is passes root = record {
  state = is.state;
  text = text;
  draw = draw;
  ready = is.ready;
  passed = passes is.state is.ready is.knows;
  root = root;
}

pub has_commit : (known : Known) (memory : Memory) (text draw : List ℕ) (judged : Judged) (root : Root) (room : Room) → IsRemembered known memory
    → ((state : State) → IsReady memory state → Knows known state → PassesAs state text draw judged)
    → ((state : State) (text draw : List ℕ) → IsReady memory state → PassesAs state text draw judged → IsCommit memory root room state judged.order draw) → HasCommit memory root room
has_commit known memory text draw judged root room is passes commits = record {
  state = is.state;
  order = judged.order;
  draw = draw;
  commit = commits is.state text draw is.ready (passes is.state is.ready is.knows);
}

-- ---- answers

pub answered_same : (memory : Memory) (state : State) (text draw : List ℕ) (known : Known) (answer : Reply) → IsReady memory state → Knows known state → KnowsCode known memory.flash state
    → (answer ≡ reply.NoMemory) ⊎ OrderStep state text draw answer state → IsOrderAnswered state text draw known answer memory memory
answered_same memory state text draw known answer ready knows codes (inl none) = answer_lacks none refl knows codes
answered_same memory state text draw known answer ready knows codes (inr step) = answer_tells state step ready knows codes

-- the answer to an order that is obeyed
done_is : (figures : Figures) (next : State) → figures ≡ figures_of (entries_of next.log) → reply.Done figures.number figures.length ≡ reply.Done (number_of (entries_of next.log)) (length next.log)
done_is figures next are =
    ap (λ (n : ℕ). reply.Done n figures.length) (ap (λ (f : Figures). f.number) are)
    ∙ ap (λ (n : ℕ). reply.Done (number_of (entries_of next.log)) n) (ap (λ (f : Figures). f.length) are ∙ length-map next.log (λ (signed : SignedEntry). signed.entry))

obeyed_step : (state : State) (text draw : List ℕ) (judged : Judged) (figures : Figures) → PassesAs state text draw judged → figures ≡ figures_of (entries_of (state_after_order state judged.order draw).log)
    → OrderStep state text draw (reply.Done figures.number figures.length) (state_after_order state judged.order draw)
obeyed_step state text draw judged figures passed are = is_obeyed (record {
  order = judged.order;
  spelled = passed.spelled;
  passes = passed.passes;
  follows = refl;
  answered = done_is figures (state_after_order state judged.order draw) are;
})

pub answered_done : (before after : Memory) (state : State) (text draw : List ℕ) (judged : Judged) (known : Known) → PassesAs state text draw judged → IsReady after (state_after_order state judged.order draw) → Knows known (state_after_order state judged.order draw)
    → KnowsCode known after.flash (state_after_order state judged.order draw) → IsOrderAnswered state text draw known (reply.Done known.figures.number known.figures.length) before after
answered_done before after state text draw judged known passed ready knows codes =
    answer_tells (state_after_order state judged.order draw) (obeyed_step state text draw judged known.figures passed knows.figures) ready knows codes

-- an answer before anything is written, for which hashes were counted for new keys alone
pub answered_before : {S E : Type 0} (known known_after : Known) (text draw : List ℕ) (handed : S) (answer : Reply) (seen : Seen) (hashes hashes_after : ℕ) → IsUp 1 seen → known_after ≡ known → is_done answer ≡ false
    → ((state : State) → IsReady seen.memory state → Knows known state → (answer ≡ reply.NoMemory) ⊎ OrderStep state text draw answer state) → hashes_after ≤ hashes + 2 * TREE_HASHES
    → ((state : State) (keys : ℕ) → IsReady seen.memory state → Knows known state → MakesKeys state text draw keys → hashes_after ≤ hashes + keys * TREE_HASHES)
    → AnswersOrder known known_after text draw {S = S} {E = E} (Ok (handed, answer)) seen seen hashes hashes_after
answered_before known known_after text draw handed answer seen hashes hashes_after up same undone step cost keys = record {
  told = λ state ready knows codes.
      answered_same seen.memory state text draw known_after answer ready (subst (λ (k : Known). Knows k state) (sym same) knows)
      (subst (λ (k : Known). KnowsCode k seen.memory.flash state) (sym same) codes) (step state ready knows);
  stays = λ is. same;
  keeps = λ done. absurd (cc);
  writes = λ uncut. (refl, refl);
  spared = same_memory_spared seen.memory seen.memory refl;
  ran = ran_not 35 (handed, answer) seen up;
  cost = omega (arith, cost);
  again = λ state count ready knows some makes. omega (arith, keys state count ready knows makes);
}

pub order_cut : (after : Memory) (state : State) (text draw : List ℕ) (judged : Judged) (figures : Figures) → PassesAs state text draw judged → figures ≡ figures_of (entries_of (state_after_order state judged.order draw).log)
    → Means after state ⊎ Means after (state_after_order state judged.order draw) → IsOrderCut state text draw after
order_cut after state text draw judged figures passed are counts = record {
  number = figures.number;
  size = figures.length;
  next = state_after_order state judged.order draw;
  step = obeyed_step state text draw judged figures passed are;
  counts = counts;
}
