-- What carries out `rehearse`.
use Rattle.std.proofs.Common.{◌≡◌, ℕ, ◌+◌, ◌-◌, ◌<◌, ◌≤◌, true, false, true≢false, List, [], ◌∷◌, ◌++◌, length, take, drop, get_or, Result, Ok, Err, refl, sym, ◌∙◌, ap, subst, inl, inr, arith, append_assoc, length-append, length-drop}
use Rattle.std.specs.Prelude.{All, IfOk, suc}
use Rattle.std.proofs.Math.Seq.{drop-cons}
use Rattle.std.proofs.lemmas.List.{take_at, take_more, take_all, take-append-drop}
use Rattle.std.proofs.lemmas.List.Elements.{All-nil, All-head, All-push}
use Rattle.mb_model.specs.declared.event.Answered.{Answered}
use Rattle.mb_model.specs.outside.Board.{Held, Used}
use Rattle.mb_model_commands.specs.Outside.{Outside}
use Rattle.mb_model_commands.specs.Commands.{Past, print, refuse}
use Rattle.mb_model_lemmas.proofs.ListLemmas.{All-back}
use Rattle.mb_console.specs.declared.end.End.{End}
use Rattle.mb_console.specs.declared.end.End.TheVariants as end
use Rattle.mb_console.specs.Ending.{CarriesOutAfter, CarriesOutRest}
use Rattle.mb_console.proofs.CommandLemmas.{goes_first, goes_second, finds, refuse_here, memory_chosen}
use Rattle.mb_script.specs.Reading.{IsLineOf}
use Rattle.mb_tools_device.specs.RehearseCommand.{is_unobeyed, AllObeyed, Unobeyed, IsFirstUnobeyed, first_line, veiled_text, tell_rehearsal}
use Rattle.mb_tools_device.specs.Rehearsing.{IsUnobeyedAt, TellsUnobeyed}

-- ---- the first event that was not obeyed

-- the answer tells of an event that was obeyed
abbrev IsObeyed : Answered → Type 0
IsObeyed each = is_unobeyed each.reply ≡ false

pub none_answered : (answered : List Answered) → AllObeyed (take 0 answered)
none_answered answered = All-nil IsObeyed

pub one_more_obeyed : (answered : List Answered) (i : ℕ) (one : Answered) → AllObeyed (take i answered) → i < length answered → one ≡ get_or answered i one → is_unobeyed one.reply ≡ false
    → AllObeyed (take (i + 1) answered)
one_more_obeyed answered i one all within there obeyed =
    subst AllObeyed (sym (take_more answered i one within)) (All-push IsObeyed (take i answered) (get_or answered i one) all (subst IsObeyed there obeyed))

pub each_obeyed : (answered : List Answered) (i : ℕ) → AllObeyed (take i answered) → length answered ≤ i → AllObeyed answered
each_obeyed answered i all whole = subst AllObeyed (take_all i answered whole) all

split_answers : (answered : List Answered) (i : ℕ) (one : Answered) → i < length answered → one ≡ get_or answered i one → answered ≡ take i answered ++ one ∷ drop (suc i) answered
split_answers answered i one within there =
    sym (take-append-drop i answered) ∙ ap (λ (l : List Answered). take i answered ++ l) (drop-cons answered i one within ∙ ap (λ (x : Answered). x ∷ drop (suc i) answered) (sym there))

pub unobeyed_here : (answered : List Answered) (i : ℕ) (one : Answered) → AllObeyed (take i answered) → i < length answered → one ≡ get_or answered i one → is_unobeyed one.reply ≡ true
    → IsUnobeyedAt answered i
unobeyed_here answered i one all within there unobeyed =
    let split = split_answers answered i one within there in
    let whole = ap length split ∙ length-append (take i answered) (one ∷ drop (suc i) answered) in
    record {
      before = take i answered;
      this = one;
      later = drop (suc i) answered;
      split = split;
      index_is = omega (arith, whole, length-drop (suc i) answered, within);
      obeyed = all;
      unobeyed = unobeyed;
    }

-- it stands at the line with the same index
pub first_told : (script lines : List ℕ) (answered : List Answered) (i line : ℕ) (one : Answered) (long : List ℕ) (at : IsUnobeyedAt answered i) → one ≡ get_or answered i one
    → IsLineOf script i line → long ≡ lines ++ first_line (record { line = line; reply = one.reply })
    → TellsUnobeyed script lines answered (end.RefusedAtLength long)
first_told script lines answered i line one long at there stands is =
    let own : one ≡ at.this = there ∙ ap (λ (l : List Answered). get_or l i one) at.split ∙ ap (λ (k : ℕ). get_or (at.before ++ at.this ∷ at.later) k one) at.index_is ∙ got at.before at.this at.later one in
    inl (
      record { line = line; reply = one.reply },
      record {
        before = at.before;
        this = at.this;
        later = at.later;
        split = at.split;
        obeyed = at.obeyed;
        unobeyed = at.unobeyed;
        reply_is = ap (λ (a : Answered). a.reply) own;
        stands = subst (λ (k : ℕ). IsLineOf script k line) at.index_is stands;
      },
      record { line_is = is; status_is = refl },
    )
  where
    got : (front : List Answered) (x : Answered) (back : List Answered) (d : Answered) → get_or (front ++ x ∷ back) (length front) d ≡ x
    got [] x back d = refl
    got (y ∷ front) x back d = got front x back d

-- ---- what is told

not_all : (answered : List Answered) (text : List ℕ) (first : Unobeyed) → IsFirstUnobeyed text answered first → AllObeyed answered → ⊥
not_all answered text first is all =
    let here : AllObeyed (is.this ∷ is.later) = All-back IsObeyed is.before (is.this ∷ is.later) (subst AllObeyed is.split all) in
    true≢false (sym is.unobeyed ∙ All-head IsObeyed is.this is.later here)

pub rehearsal_lacks : (text : List ℕ) (answered : List Answered) (used : Used) (final : Held) (before : Outside)
    → CarriesOutRest (tell_rehearsal text answered) (record { used = used; wrote = false }) used final before (Err end.NoMemory) before
rehearsal_lacks text answered used final before = memory_chosen (AllObeyed answered) _ _ (record { used = used; wrote = false }) used final before refl refl

pub rehearsal_obeyed : (text lines : List ℕ) (answered : List Answered) (used : Used) (final : Held) (before now : Outside) (result : Result (Unit {0}) End) → AllObeyed answered
    → lines ≡ veiled_text answered → CarriesOutAfter (print lines) before result now
    → CarriesOutRest (tell_rehearsal text answered) (record { used = used; wrote = false }) used final before result now
rehearsal_obeyed text lines answered used final before now result all is carried =
    goes_first (AllObeyed answered) _ _ (record { used = used; wrote = false }) used final before now result all
    ((subst (λ (t : List ℕ). CarriesOutAfter (print t) before result now) is carried) (record { used = used; wrote = false }) final)

pub rehearsal_refused : (text lines : List ℕ) (answered : List Answered) (used : Used) (final : Held) (before : Outside) (why : End) → lines ≡ veiled_text answered
    → TellsUnobeyed text lines answered why
    → CarriesOutRest (tell_rehearsal text answered) (record { used = used; wrote = false }) used final before (Err why) before
rehearsal_refused text lines answered used final before why is (inl (first, at, refuses)) =
    let past : Past = record { used = used; wrote = false } in
    let whole = ap (λ (t : List ℕ). t ++ first_line first) is in
    goes_second (AllObeyed answered) _ _ past used final before before _ (not_all answered text first at)
    (finds (IsFirstUnobeyed text answered) (λ f. refuse (veiled_text answered ++ first_line f)) past used final before before first _ at
    (refuse_here (veiled_text answered ++ first_line first) why past used final before (record { line_is = refuses.line_is ∙ whole; status_is = refuses.status_is }) refl))
rehearsal_refused text lines answered used final before why is (inr lacks) =
    subst (λ (w : End). CarriesOutRest (tell_rehearsal text answered) (record { used = used; wrote = false }) used final before (Err w) before) (sym lacks)
    (rehearsal_lacks text answered used final before)

-- ---- the text

-- the lines of the replies, and the line of the first event that was not obeyed, without the last LF
pub last_taken : (text words whole lines reply : List ℕ) (n : ℕ) → whole ≡ (text ++ words) ++ (reply ++ 10 ∷ []) → n ≡ length whole → lines ≡ take (n - 1) whole → lines ≡ text ++ (words ++ reply)
last_taken text words whole lines reply n is sized taken =
    let front : whole ≡ (text ++ (words ++ reply)) ++ 10 ∷ [] = is ∙ simp append_assoc in
    taken ∙ ap (λ (t : List ℕ). take (n - 1) t) front
    ∙ take_at (text ++ (words ++ reply)) (10 ∷ []) (n - 1) (omega (arith, sized, ap length front, length-append (text ++ (words ++ reply)) (10 ∷ [])))

pub same_lines : {E : Type 0} (result : Result (List ℕ) E) (one other : List ℕ) → one ≡ other → IfOk result (λ lines. lines ≡ one) → IfOk result (λ lines. lines ≡ other)
same_lines (Ok lines) one other same is = is ∙ same
same_lines (Err error) one other same is = is
