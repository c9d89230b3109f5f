-- Items that are served one after another.
use Rattle.std.proofs.Common.{◌≡◌, ◌<◌, ◌≤◌, ◌+◌, ℕ, List, [], ◌∷◌, ◌++◌, length, take, drop, get_or, Option, Some, Result, Ok, Err, refl, sym, ap, subst, ◌∙◌, append_assoc, append-nil, arith}
use Rattle.std.specs.Prelude.{OnOk, IfSome}
use Rattle.std.specs.Global.{Vec}
use Rattle.std.proofs.lemmas.List.{take_more, take_all, take-append-drop}
use Rattle.mb_model.specs.declared.key.PublicKey.{PublicKey}
use Rattle.mb_model.specs.declared.memory.NoMemory.{NoMemory}
use Rattle.mb_model.specs.outside.Texts.{line_with_lf}
use Rattle.mb_model.specs.chains.Lines.{text_of}
use Rattle.mb_model.specs.chains.Acceptance.{ChainRefusal}
use Rattle.mb_model_commands.specs.VerifyCommand.{chain_refusal_line}
use Rattle.mb_bytes.specs.Puts.{Puts}
use Rattle.mb_verifier.specs.Ends.{chain_refusal_of}
use Rattle.mb_verifier.proofs.Listed.{text_of-append}
use Rattle.mb_fleet.specs.declared.limits.TheConstants.{TEXT_LIMIT}
use Rattle.mb_fleet.specs.declared.row.Row.{Row}
use Rattle.mb_fleet.specs.declared.item.Item.{Item}
use Rattle.mb_fleet.specs.declared.item.Item.TheVariants.{Show, Find, Codes}
use Rattle.mb_fleet.specs.declared.end.FleetEnd.{FleetEnd}
use Rattle.mb_fleet.specs.declared.end.FleetEnd.TheVariants as end
use Rattle.mb_fleet.specs.Showing.{Answer, chain_refused, older, forked, full, IsChainAnswered}
use Rattle.mb_fleet.specs.declared.question.CodeCount.{CodeCount}
use Rattle.mb_fleet.specs.Questions.{serials_with, AreCounts}
use Rattle.mb_fleet.specs.Serving.{answer_line, found_lines, count_lines, FleetStep, FleetRun, AreServed, IsTooLong}
use Rattle.mb_fleet.specs.Ends.{AnswersChain, TellsEnd, AppendsStep}
use Rattle.mb_fleet.proofs.Texts.{text_of_one}

-- ---- a run with one item more

pub run_more : (maker : PublicKey) (rows : List Row) (front : List Item) (item : Item) (lines first : List (List ℕ)) (middle after : List Row)
    → FleetRun maker rows front lines middle → FleetStep maker middle item first after → FleetRun maker rows (front ++ item ∷ []) (lines ++ first) after
run_more maker rows [] item lines first middle after run step = (
  first,
  [],
  after,
  subst (λ (r : List Row). FleetStep maker r item first after) run.1 step,
  (refl, refl),
  ap (λ (ls : List (List ℕ)). ls ++ first) run.0 ∙ sym (append-nil first),
)
run_more maker rows (one ∷ front) item lines first middle after run step = (
  run.0,
  run.1 ++ first,
  run.2,
  run.3,
  run_more maker run.2 front item run.1 first middle after run.4 step,
  ap (λ (ls : List (List ℕ)). ls ++ first) run.5 ∙ append_assoc run.0 run.1 first,
)

module _ (maker : PublicKey) (rows : List Row) (listed : List Item) (i : ℕ) (d : Item) (within : i < length listed)
    (text text' : List ℕ) (middle after : List Row) (served : AreServed maker rows (take i listed) text middle)
    (step : AppendsStep maker middle (get_or listed i d) text text' after) where
  abbrev lines_now : List (List ℕ)
  lines_now = served.lines ++ step.lines

  run_now : FleetRun maker rows (take (i + 1) listed) lines_now after
  run_now = subst (λ (ls : List Item). FleetRun maker rows ls lines_now after) (sym (take_more listed i d within))
      (run_more maker rows (take i listed) (get_or listed i d) served.lines step.lines middle after served.run step.step)

  text_now : text' ≡ text_of lines_now
  text_now = step.appended ∙ ap (λ (t : List ℕ). t ++ text_of step.lines) served.text_is ∙ sym (text_of-append served.lines step.lines)

  pub serving_goes_on : length text' ≤ TEXT_LIMIT → AreServed maker rows (take (i + 1) listed) text' after
  serving_goes_on short = record { lines = lines_now; run = run_now; text_is = text_now; short = short }

  pub serving_stops : TEXT_LIMIT < length text' → IsTooLong maker rows listed
  serving_stops long = record {
    front = take (i + 1) listed;
    rest = drop (i + 1) listed;
    split = sym (take-append-drop (i + 1) listed);
    lines = lines_now;
    after = after;
    run = run_now;
    long = subst (λ (t : List ℕ). TEXT_LIMIT < length t) text_now long;
  }

pub serving_begins : (maker : PublicKey) (rows : List Row) (text : List ℕ) → text ≡ [] → AreServed maker rows [] text rows
serving_begins maker rows text none = record { lines = []; run = (refl, refl); text_is = none; short = rw none (omega arith) }

pub serving_ends : (maker : PublicKey) (rows : List Row) (listed : List Item) (i : ℕ) (text : List ℕ) (after : List Row) → length listed ≤ i
    → AreServed maker rows (take i listed) text after → AreServed maker rows listed text after
serving_ends maker rows listed i text after over served = subst (λ (ls : List Item). AreServed maker rows ls text after) (take_all i listed over) served

-- ---- a chain that is shown

pub on_ok_weaker : {E P Q : Type 0} (r : Result (Unit {0}) E) → (P → Q) → OnOk r P → OnOk r Q
on_ok_weaker (Ok u) weaker holds = weaker holds
on_ok_weaker (Err e) weaker holds = tt

module _ (maker : PublicKey) (rows : List Row) (bytes old new : List ℕ) (after : List Row) where
  pub answer_step : (answer : Answer) → IsChainAnswered maker rows bytes answer after → new ≡ old ++ line_with_lf (answer_line answer) → AppendsStep maker rows (Show bytes) old new after
  answer_step answer answered put = record {
    lines = answer_line answer ∷ [];
    step = (answer, answered, refl);
    appended = put ∙ ap (λ (t : List ℕ). old ++ t) (sym (text_of_one (answer_line answer)));
  }

told : (P : ChainRefusal → Type 0) (o : Option ChainRefusal) (why : ChainRefusal) → o ≡ Some why → IfSome o P → P why
told P o why is holds = subst (λ (p : Option ChainRefusal). IfSome p P) is holds

pub answer_put : (maker : PublicKey) (rows : List Row) (bytes : List ℕ) (old new : Vec ℕ) (after : List Row) (answer : Answer) (r : Result (Unit {0}) NoMemory)
    → IsChainAnswered maker rows bytes answer after → Puts (line_with_lf (answer_line answer)) old r new → OnOk r (AppendsStep maker rows (Show bytes) old.items new.items after)
answer_put maker rows bytes old new after answer (Ok u) answered puts = answer_step maker rows bytes old.items new.items after answer answered puts.items
answer_put maker rows bytes old new after answer (Err e) answered puts = tt

module _ (maker : PublicKey) (rows : List Row) (bytes : List ℕ) (old new : Vec ℕ) (after : List Row) (r : Result (Unit {0}) NoMemory) where
  pub end_put : (e : FleetEnd) → AnswersChain maker rows bytes (Err e) after → TellsEnd e old r new → OnOk r (AppendsStep maker rows (Show bytes) old.items new.items after)
  end_put (end.Chain refusal) answers tells = answer_put maker rows bytes old new after (chain_refused answers.0) r answers.2
      (told (λ why. Puts (line_with_lf (chain_refusal_line why)) old r new) (chain_refusal_of refusal) answers.0 answers.1 tells)
  end_put (end.Older serial have) answers tells = answer_put maker rows bytes old new after (older serial have) r answers tells
  end_put (end.Fork serial place) answers tells = answer_put maker rows bytes old new after (forked serial place) r answers tells
  end_put end.Full answers tells = answer_put maker rows bytes old new after full r answers tells
  end_put end.NoMemory answers tells = on_ok_weaker r (λ never. absurd never) tells

-- ---- questions

pub find_step : (maker : PublicKey) (rows : List Row) (layer : ℕ) (hash : List ℕ) (serials : List (List ℕ)) (old new : List ℕ) → serials ≡ serials_with layer hash rows
    → new ≡ old ++ text_of (found_lines serials) → AppendsStep maker rows (Find layer hash) old new rows
find_step maker rows layer hash serials old new is put = record {
  lines = found_lines (serials_with layer hash rows);
  step = (refl, refl);
  appended = put ∙ ap (λ (s : List (List ℕ)). old ++ text_of (found_lines s)) is;
}

pub codes_step : (maker : PublicKey) (rows : List Row) (layer : ℕ) (counts shown : List CodeCount) (old new : List ℕ) → AreCounts layer rows counts → shown ≡ counts
    → new ≡ old ++ text_of (count_lines shown) → AppendsStep maker rows (Codes layer) old new rows
codes_step maker rows layer counts shown old new are is put = record {
  lines = count_lines counts;
  step = (counts, are, refl, refl);
  appended = put ∙ ap (λ (s : List CodeCount). old ++ text_of (count_lines s)) is;
}
