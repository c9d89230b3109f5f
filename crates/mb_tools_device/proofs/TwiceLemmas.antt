-- The events of the two runs, and the last answers of the second.
use Rattle.std.proofs.Common.{◌≡◌, ◌≢◌, ℕ, ◌-◌, ◌≤◌, List, [], ◌∷◌, ◌++◌, length, take, drop, get_or, refl, sym, ap, subst, ◌∙◌, arith, append_assoc, length-append, length-drop}
use Rattle.std.specs.Prelude.{suc, All}
use Rattle.std.proofs.Math.Seq.{drop-cons}
use Rattle.std.proofs.lemmas.List.{take-append-drop}
use Rattle.std.proofs.lemmas.List.Elements.{All-nil, All-cons, All-append}
use Rattle.mb_model.specs.declared.event.Event.{Event}
use Rattle.mb_model.specs.declared.event.Event.TheVariants as event
use Rattle.mb_model.specs.declared.event.Tear.{Tear}
use Rattle.mb_model.specs.declared.event.Answered.{Answered}
use Rattle.mb_model.specs.declared.reply.Reply.TheVariants as reply
use Rattle.mb_model.specs.chains.Script.{IsScriptEvent, tear_of}
use Rattle.mb_model_lemmas.proofs.ListLemmas.{All-front}
use Rattle.mb_model_lemmas.proofs.Splits.{All-split}
use Rattle.mb_script.specs.Reading.{IsFill}
use Rattle.mb_tools_device.specs.CutCommand.{AreUncut, CutRun, IsCutRun, LastIsStopped}
use Rattle.mb_tools_device.specs.TwoRuns.{AreRuns, CanBeCut}
use Rattle.mb_tools_device.proofs.MachineLemmas.{IsUncut, third_same}

-- ---- the third answer from the end

two_left : (list : List Answered) → length list ≡ 2 → (boot : Answered) × (off : Answered) × (list ≡ boot ∷ off ∷ [])
two_left [] two = absurd (omega (arith, two))
two_left (a ∷ []) two = absurd (omega (arith, two))
two_left (a ∷ b ∷ []) two = (a, b, refl)
two_left (a ∷ b ∷ c ∷ list) two = absurd (omega (arith, two))

third_from_end : (list : List Answered) (third : Answered) → 3 ≤ length list → third ≡ get_or list (length list - 3) third
    → (boot : Answered) × (off : Answered) × (list ≡ take (length list - 3) list ++ third ∷ boot ∷ off ∷ [])
third_from_end list third long there =
    let n : ℕ = length list - 3 in
    let left = two_left (drop (suc n) list) (length-drop (suc n) list ∙ omega (arith, long)) in
    let tail : drop n list ≡ third ∷ left.0 ∷ left.1 ∷ [] =
    drop-cons list n third (omega (arith, long)) ∙ ap (λ (a : Answered). a ∷ drop (suc n) list) (sym there) ∙ ap (λ (l : List Answered). third ∷ l) left.2 in
    (left.0, left.1, sym (take-append-drop n list) ∙ ap (λ (l : List Answered). take n list ++ l) tail)

pub stopped_there : (list : List Answered) (third : Answered) → 3 ≤ length list → third ≡ get_or list (length list - 3) third → third.reply ≡ reply.Stopped → LastIsStopped list
stopped_there list third long there stopped =
    let parts = third_from_end list third long there in
    record { before = take (length list - 3) list; last = third; boot = parts.0; off = parts.1; split = parts.2; stopped = stopped }

pub not_stopped_there : (list : List Answered) (third : Answered) → 3 ≤ length list → third ≡ get_or list (length list - 3) third → third.reply ≢ reply.Stopped → LastIsStopped list → ⊥
not_stopped_there list third long there other is =
    let parts = third_from_end list third long there in
    let same : third ≡ is.last = third_same (take (length list - 3) list) is.before third parts.0 parts.1 is.last is.boot is.off (sym parts.2 ∙ is.split) in
    other (ap (λ (a : Answered). a.reply) same ∙ is.stopped)

-- ---- the events

pushed : (first copies one two three four : List Event) (count : ℕ) (tear : Tear) (last : Event) → copies ≡ first → one ≡ copies ++ event.Cut count tear ∷ [] → two ≡ one ++ last ∷ []
    → three ≡ two ++ event.Boot ∷ [] → four ≡ three ++ event.Off ∷ [] → four ≡ first ++ event.Cut count tear ∷ last ∷ event.Boot ∷ event.Off ∷ []
pushed first copies one two three four count tear last is_first is_one is_two is_three is_four =
    is_four ∙ ap (λ (l : List Event). l ++ event.Off ∷ []) (is_three ∙ ap (λ (l : List Event). l ++ event.Boot ∷ []) (is_two ∙ ap (λ (l : List Event). l ++ last ∷ [])
    (is_one ∙ ap (λ (l : List Event). l ++ event.Cut count tear ∷ []) is_first)))
    ∙ append_assoc ((first ++ event.Cut count tear ∷ []) ++ last ∷ []) (event.Boot ∷ []) (event.Off ∷ [])
    ∙ append_assoc (first ++ event.Cut count tear ∷ []) (last ∷ []) (event.Boot ∷ event.Off ∷ [])
    ∙ append_assoc first (event.Cut count tear ∷ []) (last ∷ event.Boot ∷ event.Off ∷ [])

-- the events of a script, with a cut before the last, a boot and an off, are those of a script too
can_be_cut : (first : List Event) (last : Event) (count : ℕ) (tear : Tear) (fill : List ℕ) → AreUncut (first ++ last ∷ []) → All IsScriptEvent (first ++ last ∷ []) → 1 ≤ count → count ≤ 100000
    → 1 ≤ length fill → length fill ≤ 16 → tear ≡ tear_of 0 fill → CanBeCut count (record { first = first; last = last; tear = tear })
can_be_cut first last count tear fill uncut scripted least most some short torn =
    let ends : All IsScriptEvent (event.Cut count tear ∷ last ∷ event.Boot ∷ event.Off ∷ []) =
    All-cons IsScriptEvent (event.Cut count tear) (last ∷ event.Boot ∷ event.Off ∷ []) (
      fill,
      record {
        least = least;
        most = most;
        torn = record {
          keep = subst (λ (t : Tear). t.keep ≤ 1048576) (sym torn) (omega arith);
          some = some;
          most = short;
          made = torn ∙ ap (λ (k : ℕ). tear_of k fill) (sym (ap (λ (t : Tear). t.keep) torn));
        };
      },
    )
    (All-cons IsScriptEvent last (event.Boot ∷ event.Off ∷ []) (All-split IsScriptEvent first last [] scripted)
    (All-cons IsScriptEvent event.Boot (event.Off ∷ []) tt (All-cons IsScriptEvent event.Off [] tt (All-nil IsScriptEvent)))) in
    record {
      uncut = All-front IsUncut first (last ∷ []) uncut.can.uncut;
      last = All-split IsUncut first last [] uncut.can.uncut;
      first = All-front IsScriptEvent first (last ∷ []) scripted;
      first_most = omega (arith, uncut.can.most, length-append first (last ∷ []));
      second = All-append IsScriptEvent first (event.Cut count tear ∷ last ∷ event.Boot ∷ event.Off ∷ []) (All-front IsScriptEvent first (last ∷ []) scripted) ends;
      most = omega (arith, uncut.can.most, length-append first (last ∷ []), length-append first (event.Cut count tear ∷ last ∷ event.Boot ∷ event.Off ∷ []));
    }

pub runs_made : (word read : List ℕ) (events all first copies one two three four : List Event) (count : ℕ) (tear : Tear) (last : Event) (given : List Event)
    → (fill : List ℕ) × IsFill read fill × (tear ≡ tear_of 0 fill) → read ≡ word → all ≡ events → all ≡ first ++ last ∷ [] → copies ≡ first → one ≡ copies ++ event.Cut count tear ∷ []
    → two ≡ one ++ last ∷ [] → three ≡ two ++ event.Boot ∷ [] → four ≡ three ++ event.Off ∷ [] → given ≡ first
    → AreUncut events → All IsScriptEvent events → 1 ≤ count → count ≤ 100000
    → (cut : CutRun) × IsCutRun word events cut × AreRuns count given four cut
runs_made word read events all first copies one two three four count tear last given torn is_word is_all split is_copies is_one is_two is_three is_four is_given uncut scripted least most =
    let filled = subst (λ (w : List ℕ). IsFill w torn.0) is_word torn.1 in
    let whole : events ≡ first ++ last ∷ [] = sym is_all ∙ split in (
      record { first = first; last = last; tear = tear },
      record { whole = whole; fill = torn.0; filled = filled.spelled; torn = torn.2 },
      record {
        first_is = is_given;
        second_is = pushed first copies one two three four count tear last is_copies is_one is_two is_three is_four;
        can = can_be_cut first last count tear torn.0 (subst AreUncut whole uncut) (subst (All IsScriptEvent) whole scripted) least most filled.some filled.most torn.2;
      },
    )

-- ---- they can be served

pub first_short : (count : ℕ) (first second : List Event) (cut : CutRun) → AreRuns count first second cut → length first ≤ 65536
first_short count first second cut are = subst (λ (l : List Event). length l ≤ 65536) (sym are.first_is) are.can.first_most

pub first_scripted : (count : ℕ) (first second : List Event) (cut : CutRun) → AreRuns count first second cut → All IsScriptEvent first
first_scripted count first second cut are = subst (All IsScriptEvent) (sym are.first_is) are.can.first

pub second_short : (count : ℕ) (first second : List Event) (cut : CutRun) → AreRuns count first second cut → length second ≤ 65536
second_short count first second cut are = subst (λ (l : List Event). length l ≤ 65536) (sym are.second_is) are.can.most

pub second_scripted : (count : ℕ) (first second : List Event) (cut : CutRun) → AreRuns count first second cut → All IsScriptEvent second
second_scripted count first second cut are = subst (All IsScriptEvent) (sym are.second_is) are.can.second
