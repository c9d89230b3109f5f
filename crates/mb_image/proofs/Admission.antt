-- Which secrets and keys a layer admitted at each change, by a log that obeys the rules.
use Rattle.std.proofs.Common.{◌≡◌, ◌<◌, ◌≤◌, ◌+◌, ℕ, zero, suc, List, [], ◌∷◌, ◌++◌, inl, inr, length, map, get_or, Bool, Option, true, false, true≢false, refl, sym, ap, subst, ◌∙◌, arith}
use Rattle.std.specs.Prelude.{◌||◌, not, nat_lt, All, Contains, IsTrue, if◌then◌else◌}
use Rattle.std.proofs.lemmas.Bool.{le-ltb}
use Rattle.mb_model.specs.declared.key.PublicKey.{PublicKey}
use Rattle.mb_model.specs.declared.layer.Layers.{Layers}
use Rattle.mb_model.specs.declared.layer.Pair.{Pair}
use Rattle.mb_model.specs.declared.order.ChangeKind.{ChangeKind}
use Rattle.mb_model.specs.declared.order.KeyKind.{KeyKind}
use Rattle.mb_model.specs.declared.order.KeyKind.TheVariants as kinds
use Rattle.mb_model.specs.declared.entry.Entry.{Entry}
use Rattle.mb_model.specs.declared.entry.Entry.TheVariants.{Birth, Change, NewKey, Succession}
use Rattle.mb_model.specs.declared.region.RegionKey.{RegionKey}
use Rattle.mb_model.specs.owners.Layers.{is_upper, is_in}
use Rattle.mb_model.specs.owners.Rules.{admits}
use Rattle.mb_model.specs.owners.Log.{number_of, layers_of, RuledLog}
use Rattle.mb_model.specs.owners.Lives.{ends_keys, Alive, MadeKey, alive_keys}
use Rattle.mb_model.specs.owners.Regions.{AdmittedSince, KeyAdmitted}
use Rattle.mb_model.specs.memories.Valid.{as_made}
use Rattle.mb_model_lemmas.proofs.LogLemmas.{number_of-append, number_of-push}
use Rattle.mb_model_lemmas.proofs.AliveLemmas.{listed_is_alive}
use Rattle.mb_model_lemmas.proofs.Splits.{two_splits, All-split, All-from_splits}
use Rattle.mb_model_lemmas.proofs.ValidRegions.{kept_at}
use Rattle.mb_image.specs.Losses.{loss}

-- the region that an entry keeps is the one that its layer admits
kept_is : (log before later : List Entry) (version position number : ℕ) (kind : ChangeKind) (k : ℕ) (cosigned : Pair) (layers : Layers) (kept : Pair) (next : Option PublicKey) (L : ℕ)
    → IsTrue (is_upper L) → RuledLog log → log ≡ before ++ Change version position number kind k cosigned layers kept next ∷ later
    → is_in L kept ≡ (nat_lt L k || admits (layers_of before) kind k cosigned L)
kept_is log before later version position number kind k cosigned layers kept next L upper ruled split =
    ap (is_in L) (ruled before (Change version position number kind k cosigned layers kept next) later split).2.regions
    ∙ kept_at (layers_of before) kind k cosigned L upper

either : (beneath agrees kept : Bool) → kept ≡ (beneath || agrees) → beneath ≡ false → kept ≡ true → agrees ≡ true
either beneath agrees kept is low on = grind (arith, is, low, on)

neither : (beneath agrees kept : Bool) → kept ≡ (beneath || agrees) → kept ≡ false → (beneath ≡ false) × (agrees ≡ false)
neither true agrees kept is off = absurd (grind (arith, is, off))
neither false agrees kept is off = (refl, sym is ∙ off)

loss_of : (b : Bool) (number c : ℕ) → (if b then 0 else number) ≤ c → c < number → b ≡ true
loss_of true number c less above = refl
loss_of false number c less above = absurd (omega (arith, less, above))

not_above : (k L : ℕ) → nat_lt L k ≡ false → k ≤ L
not_above k L off = grind (arith, off)

-- a secret that was put after the last loss was kept rightly
pub admitted_after : (log : List Entry) (c L : ℕ) → IsTrue (is_upper L) → RuledLog log → All (λ entry. loss L entry ≤ c) log → AdmittedSince log c L
admitted_after log c L upper ruled lost =
    λ before later version position number kind k cosigned layers kept next split above beneath.
    let entry : Entry = Change version position number kind k cosigned layers kept next in
    let small : (if is_in L kept then 0 else number) ≤ c = All-split (λ (e : Entry). loss L e ≤ c) before entry later (subst (All (λ (e : Entry). loss L e ≤ c)) split lost) in
    either (nat_lt L k) (admits (layers_of before) kind k cosigned L) (is_in L kept)
    (kept_is log before later version position number kind k cosigned layers kept next L upper ruled split)
    (le-ltb L k beneath)
    (loss_of (is_in L kept) number c small above)

loss_by : (b : Bool) (number c : ℕ) → (b ≡ false → c < number → ⊥) → (if b then 0 else number) ≤ c
loss_by true number c never = omega arith
loss_by false number c never =
    let not_less : c < number → ⊥ = never refl in
    grind (arith, not_less)

loss_at : (log before later : List Entry) (entry : Entry) (c L : ℕ) → IsTrue (is_upper L) → RuledLog log → AdmittedSince log c L
    → log ≡ before ++ entry ∷ later → loss L entry ≤ c
loss_at log before later (Birth version serial key layers) c L upper ruled since split = omega arith
loss_at log before later (Change version position number kind k cosigned layers kept next) c L upper ruled since split =
    loss_by (is_in L kept) number c
    (λ lost above.
    let parts = neither (nat_lt L k) (admits (layers_of before) kind k cosigned L) (is_in L kept) (kept_is log before later version position number kind k cosigned layers kept next L upper ruled split) lost in
    let on : admits (layers_of before) kind k cosigned L ≡ true = since before later version position number kind k cosigned layers kept next split above (not_above k L parts.0) in
    true≢false (sym on ∙ parts.1))
loss_at log before later (NewKey position number key_number layer kind key) c L upper ruled since split = omega arith
loss_at log before later (Succession position key) c L upper ruled since split = omega arith

-- and a secret that was kept rightly was put after the last loss
pub lost_before : (log : List Entry) (c L : ℕ) → IsTrue (is_upper L) → RuledLog log → AdmittedSince log c L → All (λ entry. loss L entry ≤ c) log
lost_before log c L upper ruled since =
    All-from_splits (λ entry. loss L entry ≤ c) log (λ before entry later split. loss_at log before later entry c L upper ruled since split)

-- ---- keys

number_of-none : number_of [] ≡ 0
unfolding number_of
number_of-none = refl

-- a change with a greater number than a key's entry stands after it
stands_after : (log before later before' later' : List Entry) (position number n L : ℕ) (key_kind : KeyKind) (key : PublicKey)
    → (version' position' number' : ℕ) (kind : ChangeKind) (k : ℕ) (cosigned : Pair) (layers : Layers) (kept : Pair) (next : Option PublicKey)
    → RuledLog log → log ≡ before ++ NewKey position number n L key_kind key ∷ later
    → log ≡ before' ++ Change version' position' number' kind k cosigned layers kept next ∷ later' → number < number'
    → (more : List Entry) × (later ≡ more ++ Change version' position' number' kind k cosigned layers kept next ∷ later')
stands_after log before later before' later' position number n L key_kind key version' position' number' kind k cosigned layers kept next ruled split split' above =
    let mine : Entry = NewKey position number n L key_kind key in
    let change : Entry = Change version' position' number' kind k cosigned layers kept next in
    let own : number ≡ number_of before = (ruled before mine later split).1.counted in
    let other : number' ≡ number_of before' + 1 = (ruled before' change later' split').1.counted in
    elim (two_splits before before' mine change later later' (sym split ∙ split')) [
      | inl same ↦ absurd (grind (arith, same.1))
      | inr (inl first) ↦ (first.0, rest_of before mine first.0 later change later' (sym split ∙ split' ∙ ap (λ es. es ++ change ∷ later') first.1))
      | inr (inr second) ↦
          let more = number_of-append before' (change ∷ second.0) in
          let one = number_of-append (change ∷ []) second.0 in
          let change_counts : number_of (change ∷ []) ≡ 1 = number_of-push [] change ∙ ap (λ n. n + 1) (number_of-none) in
          absurd (omega (arith, own, other, above, ap number_of second.1 ∙ more, one, change_counts))
    ]
  where
    rest_of : (xs : List Entry) (x : Entry) (more later : List Entry) (y : Entry) (rest : List Entry) → xs ++ x ∷ later ≡ (xs ++ x ∷ more) ++ y ∷ rest → later ≡ more ++ y ∷ rest
    rest_of [] x more later y rest e = cc
    rest_of (a ∷ xs) x more later y rest e =
        let tails : xs ++ x ∷ later ≡ (xs ++ x ∷ more) ++ y ∷ rest = cc in
        rest_of xs x more later y rest tails

-- a change that does not end a key is one that its layer admits
goes_along : (key_kind : KeyKind) (L : ℕ) (version position number : ℕ) (kind : ChangeKind) (k : ℕ) (cosigned : Pair) (layers : Layers) (kept : Pair) (next : Option PublicKey)
    → ends_keys key_kind L (Change version position number kind k cosigned layers kept next) ≡ false → k ≤ L → is_in L kept ≡ true
goes_along kinds.Epoch L version position number kind k cosigned layers kept next lasts beneath = not_false (is_in L kept) lasts
  where
    not_false : (b : Bool) → not b ≡ false → b ≡ true
    not_false true e = refl
    not_false false e = absurd (true≢false e)
goes_along kinds.Configuration L version position number kind k cosigned layers kept next lasts beneath = absurd (grind (arith, lasts, beneath))

-- a key that is alive was admitted
pub alive_is_admitted : (log : List Entry) (n L : ℕ) (key_kind : KeyKind) (key : PublicKey) → IsTrue (is_upper L) → RuledLog log → Alive log n L key_kind key → KeyAdmitted log L n
alive_is_admitted log n L key_kind key upper ruled alive = record {
  before = alive.before;
  position = alive.position;
  number = alive.number;
  kind = key_kind;
  key = key;
  later = alive.later;
  split = alive.split;
  admitted = λ before later version position number kind k cosigned layers kept next split above beneath.
      let change : Entry = Change version position number kind k cosigned layers kept next in
      let after = stands_after log alive.before alive.later before later alive.position alive.number n L key_kind key version position number kind k cosigned layers kept next ruled alive.split split above in
      let lasts : ends_keys key_kind L change ≡ false = All-split (λ (e : Entry). ends_keys key_kind L e ≡ false) after.0 change later (subst (All (λ (e : Entry). ends_keys key_kind L e ≡ false)) after.1 alive.lasts) in
      either (nat_lt L k) (admits (layers_of before) kind k cosigned L) (is_in L kept)
      (kept_is log before later version position number kind k cosigned layers kept next L upper ruled split)
      (le-ltb L k beneath)
      (goes_along key_kind L version position number kind k cosigned layers kept next lasts beneath);
}

contained : (keys : List RegionKey) (i : ℕ) (d : RegionKey) → i < length keys → Contains (map as_made keys) (as_made (get_or keys i d))
contained [] i d within = absurd (omega (arith, within))
contained (key ∷ keys) zero d within = (0, omega arith, refl)
contained (key ∷ keys) (suc i) d within =
    let rest = contained keys i d (omega (arith, within)) in
    (suc rest.0, omega (arith, rest.1), rest.2)

-- so were the keys of a region that are those alive
pub alive_keys_are_admitted : (log : List Entry) (L : ℕ) (keys : List RegionKey) → IsTrue (is_upper L) → RuledLog log → map as_made keys ≡ alive_keys log L
    → All (λ key. KeyAdmitted log L key.number) keys
alive_keys_are_admitted log L keys upper ruled are =
    λ i d within.
    let key : RegionKey = get_or keys i d in
    let listed : Contains (alive_keys log L) (as_made key) = subst (λ (made : List MadeKey). Contains made (as_made key)) are (contained keys i d within) in
    alive_is_admitted log key.number L key.kind _ upper ruled (listed_is_alive log key.number L key.kind _ listed)
