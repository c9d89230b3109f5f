-- What entries say of one key of a region, with one more.
use Rattle.std.proofs.Common.{◌≡◌, ℕ, List, [], ◌∷◌, ◌++◌, Bool, true, false, ◌≢◌, inl, inr, refl, sym, ap, subst, ◌∙◌, None, Some, eq-eqb}
use Rattle.std.specs.Prelude.{Result, Ok, Err, OnOk, ◌==◌, not, ◌&&◌, if◌then◌else◌}
use Rattle.std.specs.Option.{option_map}
use Rattle.std.proofs.lemmas.Bool.Decides.{eqb_tells}
use Rattle.std.proofs.lemmas.Option.{same_Some}
use Rattle.mb_model.specs.declared.key.PublicKey.{PublicKey}
use Rattle.mb_model.specs.declared.order.KeyKind.{KeyKind}
use Rattle.mb_model.specs.declared.entry.Entry.{Entry}
use Rattle.mb_model.specs.declared.entry.Entry.TheVariants.{Birth, Change, NewKey, Succession}
use Rattle.mb_model.specs.declared.state.Configuration.{Configuration}
use Rattle.mb_model.specs.owners.Log.{figures_of, number_of, layers_of, last_of, RuledLog}
use Rattle.mb_model.specs.owners.Lives.{ends_keys, configuration, configurations_opened_by, lives_of}
use Rattle.mb_model.specs.chains.Acceptance.{KeyEntry, key_in, key_of, is_alive}
use Rattle.mb_model_lemmas.proofs.ReaderLemmas.{no_lives_unmade, first_sight, first_lives, first_alive, stays_made, stays_alive, lives_on}
use Rattle.mb_model_lemmas.proofs.Splits.{none_is_some}
use Rattle.mb_log.specs.declared.life.BornKey.{BornKey}
use Rattle.mb_log.specs.declared.life.Life.{Life}
use Rattle.mb_model.specs.declared.state.Figures.{Figures}
use Rattle.mb_log.specs.KeyLife.{as_entry, IsLifeOf}

no_key : (n : ℕ) → key_of [] n ≡ None
unfolding key_of last_of
no_key n = refl

-- by no entries the key is not born
pub life_begins : (n : ℕ) (lives : List Configuration) → lives ≡ [] → IsLifeOf [] n (record { number = n; born = None; alive = false; lives = lives })
life_begins n lives none = record {
  number = refl;
  born = no_key n;
  alive = λ made e. absurd (none_is_some (key_of [] n) made (no_key n) e);
  lives = none ∙ sym (no_lives_unmade [] n (no_key n));
}

-- the entry does not make the key, which is not born
pub stays_unborn : (before : List Entry) (entry : Entry) (n : ℕ) (life : Life) → life.born ≡ None → key_in n entry ≡ None → IsLifeOf before n life
    → IsLifeOf (before ++ entry ∷ []) n life
stays_unborn before entry n life unborn other is =
    let none : key_of before n ≡ None = is.born ∙ ap (option_map as_entry) unborn in
    let none_yet : key_of (before ++ entry ∷ []) n ≡ None = first_sight before entry n none ∙ other in
    record {
      number = is.number;
      born = none_yet ∙ sym (ap (option_map as_entry) unborn);
      alive = λ made e. absurd (none_is_some (key_of (before ++ entry ∷ []) n) made none_yet e);
      lives = is.lives ∙ no_lives_unmade before n none ∙ sym (no_lives_unmade (before ++ entry ∷ []) n none_yet);
    }

-- an entry that is no new key makes none
pub no_new_key : (n : ℕ) (entry : Entry)
    → ((position number key_number layer : ℕ) (kind : KeyKind) (key : PublicKey) → entry ≡ NewKey position number key_number layer kind key → ⊥)
    → key_in n entry ≡ None
no_new_key n (Birth version serial device layers) not = refl
no_new_key n (Change version position number kind layer cosigned layers kept next) not = refl
no_new_key n (NewKey position number key_number layer kind key) not = absurd (not position number key_number layer kind key refl)
no_new_key n (Succession position device) not = refl

unequal : (a b : ℕ) → a ≢ b → (a == b) ≡ false
unequal a b apart = elim (eqb_tells a b) [ inl same ↦ absurd (apart same.1) | inr other ↦ other.0 ]

-- the entry makes another key
pub other_born : (before : List Entry) (entry : Entry) (position number key_number n layer : ℕ) (kind : KeyKind) (key : PublicKey) (life : Life)
    → entry ≡ NewKey position number key_number layer kind key → key_number ≢ life.number → life.born ≡ None → IsLifeOf before n life
    → IsLifeOf (before ++ entry ∷ []) n life
other_born before entry position number key_number n layer kind key life entry_is other unborn is =
    let apart : (key_number == n) ≡ false = unequal key_number n (λ same. other (same ∙ sym is.number)) in
    let made : KeyEntry = record { layer = layer; kind = kind; key = key } in
    stays_unborn before entry n life unborn (ap (key_in n) entry_is ∙ ap (λ b. if b then Some made else None) apart) is

-- what the figures tell
pub figures_number : (figures : Figures) (before : List Entry) → figures ≡ figures_of before → figures.number ≡ number_of before
figures_number figures before is = ap (λ (f : Figures). f.number) is

pub figures_layers : (figures : Figures) (before : List Entry) → figures ≡ figures_of before → figures.layers ≡ layers_of before
figures_layers figures before is = ap (λ (f : Figures). f.layers) is

-- the life of a key that its entry makes
abbrev pub born_life : Life → ℕ → KeyKind → PublicKey → List Configuration → Life
born_life life layer kind key lives = record {
  number = life.number;
  born = Some (record { layer = layer; kind = kind; key = key });
  alive = true;
  lives = lives;
}

by_new_key : (before : List Entry) (position number n layer : ℕ) (kind : KeyKind) (key : PublicKey) (life : Life) (lives : List Configuration)
    → lives ≡ life.lives ++ configuration layer number (layers_of before) ∷ [] → life.born ≡ None → IsLifeOf before n life
    → IsLifeOf (before ++ NewKey position number n layer kind key ∷ []) n (born_life life layer kind key lives)
by_new_key before position number n layer kind key life lives lives_are unborn is =
    let entry : Entry = NewKey position number n layer kind key in
    let made : KeyEntry = record { layer = layer; kind = kind; key = key } in
    let first : Configuration = configuration layer number (layers_of before) in
    let none : key_of before n ≡ None = is.born ∙ ap (option_map as_entry) unborn in
    let own : key_in n entry ≡ Some made = ap (λ b. if b then Some made else None) (eq-eqb n n refl) in
    record {
      number = is.number;
      born = first_sight before entry n none ∙ own;
      alive = λ other e. sym (first_alive before entry n other none (sym (first_sight before entry n none) ∙ e));
      lives =
          lives_are
          ∙ ap (λ cs. cs ++ first ∷ []) (is.lives ∙ no_lives_unmade before n none)
          ∙ sym (first_lives before entry n none ∙ ap (λ b. if b then first ∷ [] else []) (eq-eqb n n refl));
    }

-- the entry makes the key
pub is_born : (before : List Entry) (entry : Entry) (figures : Figures) (position number key_number n layer : ℕ) (kind : KeyKind) (key : PublicKey) (life : Life) (first : Configuration) (lives : List Configuration)
    → figures ≡ figures_of before → entry ≡ NewKey position number key_number layer kind key → key_number ≡ life.number
    → first ≡ configuration layer number figures.layers → lives ≡ life.lives ++ first ∷ [] → life.born ≡ None → IsLifeOf before n life
    → IsLifeOf (before ++ entry ∷ []) n (born_life life layer kind key lives)
is_born before entry figures position number key_number n layer kind key life first lives figures_are entry_is key_is first_is lives_are unborn is =
    let own : entry ≡ NewKey position number n layer kind key = entry_is ∙ ap (λ (x : ℕ). NewKey position number x layer kind key) (key_is ∙ is.number) in
    let opened : first ≡ configuration layer number (layers_of before) = first_is ∙ ap (configuration layer number) (figures_layers figures before figures_are) in
    subst (λ (e : Entry). IsLifeOf (before ++ e ∷ []) n (born_life life layer kind key lives)) (sym own)
    (by_new_key before position number n layer kind key life lives (lives_are ∙ ap (λ (c : Configuration). life.lives ++ c ∷ []) opened) unborn is)

-- the key lives on after its own entry, or does not
pub goes_on : (before : List Entry) (entry : Entry) (n : ℕ) (life next : Life) (born : BornKey) → RuledLog (before ++ entry ∷ []) → life.born ≡ Some born → IsLifeOf before n life
    → next.number ≡ life.number
    → next.born ≡ life.born
    → next.alive ≡ (life.alive && not (ends_keys born.kind born.layer entry))
    → next.lives ≡ life.lives ++ (if life.alive && not (ends_keys born.kind born.layer entry) then configurations_opened_by born.layer entry else [])
    → IsLifeOf (before ++ entry ∷ []) n next
goes_on before entry n life next born ruled was is number_is born_is alive_is lives_are =
    let made : KeyEntry = as_entry born in
    let on : Bool = not (ends_keys born.kind born.layer entry) in
    let named : key_of before n ≡ Some made = is.born ∙ ap (option_map as_entry) was in
    let still : key_of (before ++ entry ∷ []) n ≡ Some made = stays_made before entry n made ruled named in
    let flag : life.alive ≡ is_alive before n born.layer = is.alive made named in
    record {
      number = number_is ∙ is.number;
      born = still ∙ sym (ap (option_map as_entry) (born_is ∙ was));
      alive = λ other e.
          alive_is
          ∙ ap (λ b. b && on) flag
          ∙ sym (stays_alive before entry n made ruled named)
          ∙ ap (λ (m : KeyEntry). is_alive (before ++ entry ∷ []) n m.layer) (same_Some made other (sym still ∙ e));
      lives =
          lives_are
          ∙ ap (λ cs. cs ++ (if life.alive && on then configurations_opened_by born.layer entry else [])) is.lives
          ∙ ap (λ b. lives_of before n ++ (if b && on then configurations_opened_by born.layer entry else [])) flag
          ∙ sym (lives_on before entry n made ruled named);
    }

-- two facts that hold on Ok
pub both_on_ok : {T E : Type 0} (r : Result T E) (A B C : Type 0) → OnOk r A → OnOk r B → (A → B → C) → OnOk r C
both_on_ok (Ok x) A B C a b f = f a b
both_on_ok (Err e) A B C a b f = a
