-- The first entries of a log.
use Rattle.std.proofs.Common.{◌≡◌, ℕ, ◌+◌, ◌-◌, ◌^◌, ◌≤◌, ◌<◌, List, [], ◌∷◌, ◌++◌, length, take, drop, refl, sym, ap, subst, ◌∙◌, arith, get_or}
use Rattle.std.proofs.lemmas.List.{map-append, length-map, length-take, take-append-drop}
use Rattle.std.specs.Prelude.{unwrap_or}
use Rattle.mb_model.specs.declared.entry.Entry.{Entry}
use Rattle.mb_model.specs.declared.entry.SignedEntry.{SignedEntry}
use Rattle.mb_model.specs.owners.Log.{figures_of, entries_of, RuledLog, last_of, layers_in, layers_of}
use Rattle.mb_model.specs.declared.layer.Layers.{Layers}
use Rattle.mb_model.specs.owners.Layers.{unowned_layers}
use Rattle.mb_model_lemmas.proofs.LogLemmas.{RuledLog-front, entries_more, layers_of-push}
use Rattle.mb_model.specs.declared.state.Figures.{Figures}
use Rattle.mb_log.specs.declared.life.Life.{Life}
use Rattle.mb_log.specs.KeyLife.{IsLifeOf}

-- they obey the rules where all do
pub first_ruled : (log : List SignedEntry) (i : ℕ) → RuledLog (entries_of log) → RuledLog (entries_of (take i log))
first_ruled log i ruled =
    let whole : entries_of log ≡ entries_of (take i log) ++ entries_of (drop i log) =
    ap entries_of (sym (take-append-drop i log)) ∙ map-append (λ (s : SignedEntry). s.entry) (take i log) (drop i log)
    in
    RuledLog-front (entries_of (take i log)) (entries_of (drop i log)) (subst RuledLog whole ruled)

-- they are no more than all
pub few_first : (log : List SignedEntry) (i : ℕ) → length log ≤ 128 → length (entries_of (take i log)) ≤ 128
few_first log i few = omega (arith, length-map (take i log) (λ (s : SignedEntry). s.entry), length-take i log, few)

-- ---- steps of a loop over a log

pub figures_go_on : (log : List SignedEntry) (i : ℕ) (d : SignedEntry) (figures next : Figures) → i < length log → length log ≤ 128
    → figures ≡ figures_of (entries_of (take i log))
    → ((before : List Entry) → length before < 2 ^ 32 - 1 → figures ≡ figures_of before → next ≡ figures_of (before ++ (get_or log i d).entry ∷ []))
    → next ≡ figures_of (entries_of (take (i + 1) log))
figures_go_on log i d figures next within few are step =
    step (entries_of (take i log)) (omega (arith, few_first log i few)) are ∙ ap figures_of (sym (entries_more log i d within))

pub life_goes_on : (log : List SignedEntry) (i : ℕ) (d : SignedEntry) (n : ℕ) (figures : Figures) (life next : Life) → i < length log
    → figures ≡ figures_of (entries_of (take i log))
    → (RuledLog (entries_of log) → IsLifeOf (entries_of (take i log)) n life)
    → ((before : List Entry) (m : ℕ) → figures ≡ figures_of before → RuledLog (before ++ (get_or log i d).entry ∷ []) → IsLifeOf before m life
    → IsLifeOf (before ++ (get_or log i d).entry ∷ []) m next)
    → RuledLog (entries_of log) → IsLifeOf (entries_of (take (i + 1) log)) n next
life_goes_on log i d n figures life next within are is step ruled =
    let one = entries_more log i d within in
    subst (λ (es : List Entry). IsLifeOf es n next) (sym one)
    (step (entries_of (take i log)) n are (subst RuledLog one (first_ruled log (i + 1) ruled)) (is ruled))

-- ---- the layers that are named last

pub layers_none : layers_of [] ≡ unowned_layers
unfolding layers_of last_of
layers_none = refl

pub layers_more : (log : List SignedEntry) (i : ℕ) (d : SignedEntry) (layers : Layers) → i < length log
    → layers ≡ layers_of (entries_of (take i log)) → unwrap_or (layers_in (get_or log i d).entry) layers ≡ layers_of (entries_of (take (i + 1) log))
layers_more log i d layers within was =
    ap (unwrap_or (layers_in (get_or log i d).entry)) was
    ∙ sym (layers_of-push (entries_of (take i log)) (get_or log i d).entry)
    ∙ ap layers_of (sym (entries_more log i d within))
