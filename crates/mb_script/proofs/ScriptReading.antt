-- How far a script has been read.
use Rattle.std.proofs.Common.{◌≡◌, ◌≢◌, ℕ, ◌+◌, ◌<◌, ◌≤◌, List, [], ◌∷◌, ◌++◌, length, length-append, refl, sym, ap, subst, ◌∙◌, arith, append_assoc, true, false}
use Rattle.std.specs.Prelude.{filter}
use Rattle.std.specs.List.{AllZip}
use Rattle.std.proofs.lemmas.List.{append-nil}
use Rattle.std.proofs.lemmas.List.Elements.{filter-append}
use Rattle.mb_model.specs.declared.event.Event.{Event}
use Rattle.mb_model.specs.chains.Lines.{HasLines, IsBeginning, FailsAtLine, ReadsLines, TextFailsAtLine}
use Rattle.mb_model.specs.chains.Script.{SaysEvent, is_skipped, IsScript}
use Rattle.mb_model_lemmas.proofs.LineLemmas.{HasLines-nil, HasLines-always, IsBeginning-all, bad_after}
use Rattle.mb_model_lemmas.proofs.EventLemmas.{too_many_events, counts}
use Rattle.mb_words.specs.Words.{SplitsLine}
use Rattle.mb_words.proofs.NextLines.{shorter, with_line}

-- Some lines have been read, and stand for these events; whatever lines the rest has, the text has those and these.
pub record IsReadTo (text rest : List ℕ) (events : List Event) (number : ℕ) : Type 0 where
  pub before : List (List ℕ)
  pub stands : IsScript before events
  pub forward : (more : List (List ℕ)) → HasLines rest more → HasLines text (before ++ more)
  pub count : number ≡ length before
  pub less : number + length rest ≤ length text

pub all_read : (text rest : List ℕ) (events : List Event) (number : ℕ) → IsReadTo text rest events number → rest ≡ [] → ReadsLines IsScript text events
all_read text rest events number is none = record {
  lines = is.before ++ [];
  has = is.forward [] (subst (λ (x : List ℕ). HasLines x []) (sym none) HasLines-nil);
  stands = subst (λ (x : List (List ℕ)). IsScript x events) (sym (append-nil is.before)) is.stands;
}

-- ---- one line more

one_more : (text rest line remaining : List ℕ) (events more_events : List Event) (number : ℕ) (is : IsReadTo text rest events number) → SplitsLine rest line remaining → 0 < length rest
    → IsScript (is.before ++ line ∷ []) more_events → IsReadTo text remaining more_events (number + 1)
one_more text rest line remaining events more_events number is splits some stands = record {
  before = is.before ++ line ∷ [];
  stands = stands;
  forward = λ more has.
      subst (λ (x : List (List ℕ)). HasLines text x) (sym (append_assoc is.before (line ∷ []) more)) (is.forward (line ∷ more) (with_line rest line remaining more splits some has));
  count = omega (arith, is.count, length-append is.before (line ∷ []));
  less = omega (arith, is.less, shorter rest line remaining splits some);
}

pub one_left : (line : List ℕ) → is_skipped line ≡ true → filter counts (line ∷ []) ≡ []
one_left line skipped = rw skipped refl

pub one_kept : (line : List ℕ) → is_skipped line ≡ false → filter counts (line ∷ []) ≡ line ∷ []
one_kept line said = rw said refl

pub skip_line : (text rest line remaining : List ℕ) (events : List Event) (number : ℕ) → IsReadTo text rest events number → SplitsLine rest line remaining → 0 < length rest
    → is_skipped line ≡ true → IsReadTo text remaining events (number + 1)
skip_line text rest line remaining events number is splits some skipped =
    let same = filter-append counts is.before (line ∷ []) ∙ ap (λ (x : List (List ℕ)). filter counts is.before ++ x) (one_left line skipped) ∙ append-nil (filter counts is.before) in
    one_more text rest line remaining events events number is splits some
    (record { said = subst (λ (x : List (List ℕ)). AllZip SaysEvent x events) (sym same) is.stands.said; most = is.stands.most })

pub push_said : (lines : List (List ℕ)) (events : List Event) (line : List ℕ) (e : Event) → AllZip SaysEvent lines events → SaysEvent line e → AllZip SaysEvent (lines ++ line ∷ []) (events ++ e ∷ [])
push_said [] [] line e said says = (says, tt)
push_said [] (x ∷ events) line e said says = absurd said
push_said (y ∷ lines) [] line e said says = absurd said
push_said (y ∷ lines) (x ∷ events) line e said says = (said.0, push_said lines events line e said.1 says)

pub say_line : (text rest line remaining : List ℕ) (events more_events : List Event) (e : Event) (number : ℕ) → IsReadTo text rest events number → SplitsLine rest line remaining → 0 < length rest
    → is_skipped line ≡ false → length events ≢ 65536 → SaysEvent line e → more_events ≡ events ++ e ∷ [] → IsReadTo text remaining more_events (number + 1)
say_line text rest line remaining events more_events e number is splits some said room says pushed =
    let same = filter-append counts is.before (line ∷ []) ∙ ap (λ (x : List (List ℕ)). filter counts is.before ++ x) (one_kept line said) in
    let most = is.stands.most in
    subst (λ (x : List Event). IsReadTo text remaining x (number + 1)) (sym pushed)
    (one_more text rest line remaining events (events ++ e ∷ []) number is splits some
    (record {
      said = subst (λ (x : List (List ℕ)). AllZip SaysEvent x (events ++ e ∷ [])) (sym same) (push_said (filter counts is.before) events line e is.stands.said says);
      most = omega (arith, most, room, length-append events (e ∷ []));
    }))

-- ---- the first line that is wrong

fails_here : (text rest line remaining : List ℕ) (events : List Event) (number : ℕ) (is : IsReadTo text rest events number) → SplitsLine rest line remaining → 0 < length rest
    → ((later : List (List ℕ)) → FailsAtLine IsScript (is.before ++ line ∷ later) (length is.before + 1)) → TextFailsAtLine IsScript text (number + 1)
fails_here text rest line remaining events number is splits some fails =
    let later = HasLines-always remaining in
    record {
      lines = is.before ++ line ∷ later.0;
      has = is.forward (line ∷ later.0) (with_line rest line remaining later.0 splits some later.1);
      fails = subst (λ (n : ℕ). FailsAtLine IsScript (is.before ++ line ∷ later.0) (n + 1)) (sym is.count) (fails later.0);
    }

pub full_line : (text rest line remaining : List ℕ) (events : List Event) (number : ℕ) → IsReadTo text rest events number → SplitsLine rest line remaining → 0 < length rest
    → is_skipped line ≡ false → length events ≡ 65536 → TextFailsAtLine IsScript text (number + 1)
full_line text rest line remaining events number is splits some said full =
    fails_here text rest line remaining events number is splits some (λ later. too_many_events is.before later line events is.stands full said)

-- of lines that say events, one in the middle says one
middle_says : (before later : List (List ℕ)) (line : List ℕ) (events : List Event) → AllZip SaysEvent (before ++ line ∷ later) events → (e : Event) × SaysEvent line e
middle_says [] later line [] said = absurd said
middle_says [] later line (e ∷ events) said = (e, said.0)
middle_says (x ∷ before) later line [] said = absurd said
middle_says (x ∷ before) later line (e ∷ events) said = middle_says before later line events said.1

none_begins : (before : List (List ℕ)) (line : List ℕ) → is_skipped line ≡ false → ((e : Event) → SaysEvent line e → ⊥) → IsBeginning IsScript (before ++ line ∷ []) → ⊥
none_begins before line said wrong begins =
    let kept = filter-append counts (before ++ line ∷ []) begins.more
    ∙ ap (λ (x : List (List ℕ)). x ++ filter counts begins.more) (filter-append counts before (line ∷ []) ∙ ap (λ (x : List (List ℕ)). filter counts before ++ x) (one_kept line said))
    ∙ append_assoc (filter counts before) (line ∷ []) (filter counts begins.more) in
    let says = middle_says (filter counts before) (filter counts begins.more) line begins.value (subst (λ (x : List (List ℕ)). AllZip SaysEvent x begins.value) kept begins.stands.said) in
    wrong says.0 says.1

pub wrong_line : (text rest line remaining : List ℕ) (events : List Event) (number : ℕ) → IsReadTo text rest events number → SplitsLine rest line remaining → 0 < length rest
    → is_skipped line ≡ false → ((e : Event) → SaysEvent line e → ⊥) → TextFailsAtLine IsScript text (number + 1)
wrong_line text rest line remaining events number is splits some said wrong =
    fails_here text rest line remaining events number is splits some
    (λ later. bad_after IsScript is.before line later (IsBeginning-all IsScript is.before events is.stands) (none_begins is.before line said wrong))
