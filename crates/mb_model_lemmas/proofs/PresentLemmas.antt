-- A key that is alive lives in the layers that stand.
use Rattle.std.proofs.Common.{◌≡◌, ◌<◌, ℕ, List, [], ◌∷◌, ◌++◌, inl, inr, Bool, true, false, refl, sym, ap, subst, ◌∙◌, arith, append-nil}
use Rattle.std.specs.Prelude.{◌&&◌, ◌==◌, not, All, IsTrue, nat_lt, nat_le, Option, if◌then◌else◌}
use Rattle.std.specs.List.{list_all}
use Rattle.std.proofs.lemmas.List.Sums.{list_all-from_AllPass}
use Rattle.std.proofs.lemmas.List.{nil_from_length}
use Rattle.std.proofs.lemmas.List.Elements.{All-weaker, All-same}
use Rattle.mb_model.specs.declared.key.PublicKey.{PublicKey}
use Rattle.mb_model.specs.declared.layer.Layer.{Layer}
use Rattle.mb_model.specs.declared.layer.Layers.{Layers}
use Rattle.mb_model.specs.declared.layer.Pair.{Pair}
use Rattle.mb_model.specs.declared.order.KeyKind.{KeyKind}
use Rattle.mb_model.specs.declared.order.ChangeKind.{ChangeKind}
use Rattle.mb_model.specs.declared.entry.Entry.{Entry}
use Rattle.mb_model.specs.declared.entry.Entry.TheVariants.{Birth, Change, NewKey, Succession}
use Rattle.mb_model.specs.declared.state.Configuration.{Configuration}
use Rattle.mb_model.specs.owners.Layers.{layer_without_owner, layer_of, is_upper}
use Rattle.mb_model.specs.owners.Rules.{admits, layer_after, after}
use Rattle.mb_model.specs.owners.Log.{figures_of, layers_of, Ruled, RuledLog}
use Rattle.mb_model.specs.owners.Lives.{ends_keys, Alive, layers_upto, configuration, configurations_opened_by}
use Rattle.mb_model.specs.owners.Lives.{lives_of}
use Rattle.mb_model_lemmas.proofs.LogLemmas.{layers_of-push, split_push, by_entries, RuledLog-push}
use Rattle.mb_model_lemmas.proofs.RegionLemmas.{at_upper}
use Rattle.mb_model_lemmas.proofs.AliveLemmas.{lives_of_new_key, lives_of-push}
use Rattle.mb_model_lemmas.proofs.ListLemmas.{not_first, All-front}

-- a change leaves what is beneath it
beneath_stays : (layers : Layers) (kind : ChangeKind) (k : ℕ) (cosigned : Pair) (new : Layer) (m : ℕ) → m < k → layer_after layers kind k cosigned new m ≡ layer_of layers m
beneath_stays layers kind k cosigned new m less = by (m == k) (nat_lt m k) (grind (arith, less)) (grind (arith, less))
  where
    by : (at beneath : Bool) → at ≡ false → beneath ≡ true → (if at then new else if beneath then layer_of layers m else record (layer_of layers m) { reliable = (layer_of layers m).reliable && admits layers kind k cosigned m }) ≡ layer_of layers m
    by false true apart under = refl
    by true beneath apart under = grind (arith, apart)
    by false false apart under = grind (arith, under)

upto_stays : (layers : Layers) (kind : ChangeKind) (k : ℕ) (cosigned : Pair) (new : Layer) (L : ℕ) → IsTrue (is_upper L) → L < k
    → layers_upto L layers ≡ layers_upto L (after layers kind k cosigned new)
unfolding after
upto_stays layers kind k cosigned new L upper =
    let stays : (m : ℕ) → m < k → layer_of layers m ≡ layer_after layers kind k cosigned new m = λ m less. sym (beneath_stays layers kind k cosigned new m less) in
    let with_parts : Layer → Layer → Layer → Layers = λ one two three. record { one = one; two = two; three = three } in
    at_upper (λ m. m < k → layers_upto m layers ≡ layers_upto m (after layers kind k cosigned new)) L upper
    (λ less.
    ap (λ (x : Layer). with_parts x layers.two layer_without_owner) (stays 1 (omega (arith, less)))
    ∙ ap (λ (x : Layer). with_parts (layer_after layers kind k cosigned new 1) x layer_without_owner) (stays 2 less))
    (λ less.
    ap (λ (x : Layer). with_parts x layers.two layers.three) (stays 1 (omega (arith, less)))
    ∙ ap (λ (x : Layer). with_parts (layer_after layers kind k cosigned new 1) x layers.three) (stays 2 (omega (arith, less)))
    ∙ ap (λ (x : Layer). with_parts (layer_after layers kind k cosigned new 1) (layer_after layers kind k cosigned new 2) x) (stays 3 less))

-- the last configuration of key n has the layers that stand, up to L
abbrev LivesNow : List Entry → ℕ → ℕ → Type 0
LivesNow log n L =
    (earlier : List Configuration) × (number : ℕ) × (lives_of log n ≡ earlier ++ configuration L number (layers_of log) ∷ [])

-- an entry that opens no configuration and leaves the layers up to L
nothing_opened : (log more : List Entry) (n L : ℕ) → lives_of more n ≡ lives_of log n ++ [] → layers_upto L (layers_of log) ≡ layers_upto L (layers_of more)
    → LivesNow log n L → LivesNow more n L
nothing_opened log more n L lives same now = (
  now.0,
  now.1,
  lives ∙ append-nil (lives_of log n) ∙ now.2
      ∙ ap (λ (x : Layers). let c : Configuration = record { number = now.1; upto = L; layers = x } in now.0 ++ c ∷ []) same,
)

above : (k L : ℕ) → nat_le k L ≡ false → L < k
above k L e = grind (arith, e)

change_lives_now : (before : List Entry) (n L : ℕ) (version position number : ℕ) (kind : ChangeKind) (k : ℕ) (cosigned : Pair) (layers : Layers) (kept : Pair) (next : Option PublicKey) (opens : Bool)
    → IsTrue (is_upper L) → nat_le k L ≡ opens → Ruled (figures_of before) (Change version position number kind k cosigned layers kept next)
    → lives_of (before ++ Change version position number kind k cosigned layers kept next ∷ []) n ≡ lives_of before n ++ (if opens then configuration L number layers ∷ [] else [])
    → LivesNow before n L → LivesNow (before ++ Change version position number kind k cosigned layers kept next ∷ []) n L
change_lives_now before n L version position number kind k cosigned layers kept next true upper opens ruled lives now =
    let stand : layers_of (before ++ Change version position number kind k cosigned layers kept next ∷ []) ≡ layers = layers_of-push before (Change version position number kind k cosigned layers kept next) in
    (lives_of before n, number, lives ∙ ap (λ (x : Layers). lives_of before n ++ configuration L number x ∷ []) (sym stand))
change_lives_now before n L version position number kind k cosigned layers kept next false upper opens ruled lives now =
    let entry : Entry = Change version position number kind k cosigned layers kept next in
    let stand : layers_of (before ++ entry ∷ []) ≡ layers = layers_of-push before entry in
    let same : layers_upto L (layers_of before) ≡ layers_upto L layers =
    upto_stays (layers_of before) kind k cosigned (layer_of layers k) L upper (above k L opens) ∙ ap (layers_upto L) (sym ruled.2.changed)
    in
    nothing_opened before (before ++ entry ∷ []) n L lives (same ∙ ap (layers_upto L) (sym stand)) now

one_more : (before : List Entry) (entry : Entry) (n L : ℕ) → IsTrue (is_upper L) → (before ≡ [] → ⊥) → Ruled (figures_of before) entry
    → lives_of (before ++ entry ∷ []) n ≡ lives_of before n ++ configurations_opened_by L entry → LivesNow before n L → LivesNow (before ++ entry ∷ []) n L
one_more before (Birth version serial key layers) n L upper some ruled lives now = absurd (some (nil_from_length before ruled.0))
one_more before (Change version position number kind k cosigned layers kept next) n L upper some ruled lives now =
    change_lives_now before n L version position number kind k cosigned layers kept next (nat_le k L) upper refl ruled lives now
one_more before (NewKey position number key_number layer kind key) n L upper some ruled lives now =
    nothing_opened before (before ++ NewKey position number key_number layer kind key ∷ []) n L lives (ap (layers_upto L) (sym (layers_of-push before (NewKey position number key_number layer kind key)))) now
one_more before (Succession position key) n L upper some ruled lives now =
    nothing_opened before (before ++ Succession position key ∷ []) n L lives (ap (layers_upto L) (sym (layers_of-push before (Succession position key)))) now

-- A key that is alive lives in the layers that stand: its last configuration has these, up to its own.
pub alive_lives_now : (log : List Entry) (n L : ℕ) (kind : KeyKind) (key : PublicKey) → RuledLog log → IsTrue (is_upper L) → Alive log n L kind key → LivesNow log n L
alive_lives_now log n L kind key ruled upper =
    by_entries (λ es. Alive es n L kind key → LivesNow es n L) step (λ alive. absurd (not_first alive.before _ alive.later (sym alive.split))) log ruled
  where
    step : (before : List Entry) (entry : Entry) → RuledLog before → (Alive before n L kind key → LivesNow before n L) → Ruled (figures_of before) entry
        → Alive (before ++ entry ∷ []) n L kind key → LivesNow (before ++ entry ∷ []) n L
    step before entry so_far lived next alive =
        let own : Entry = NewKey alive.position alive.number n L kind key in
        let longer : RuledLog (before ++ entry ∷ []) = RuledLog-push before entry so_far next in
        elim (split_push before alive.before alive.later entry own alive.split) [
          | inl end ↦
              let fresh = lives_of_new_key before alive.position alive.number n L kind key (subst (λ (e : Entry). RuledLog (before ++ e ∷ [])) end.2 longer) in
              let stand : layers_of before ≡ layers_of (before ++ own ∷ []) = sym (layers_of-push before own) in
              subst (λ (e : Entry). LivesNow (before ++ e ∷ []) n L) (sym end.2)
              ([], alive.number, fresh ∙ ap (λ (x : Layers). configuration L alive.number x ∷ []) stand)
          | inr found ↦
              let lasts : All (λ e. ends_keys kind L e ≡ false) (found.0 ++ entry ∷ []) = All-same (λ e. ends_keys kind L e ≡ false) (found.0 ++ entry ∷ []) alive.later (sym found.1) alive.lasts in
              let on : list_all (λ e. not (ends_keys kind L e)) (found.0 ++ entry ∷ []) ≡ true =
              list_all-from_AllPass (λ e. not (ends_keys kind L e)) (found.0 ++ entry ∷ []) (All-weaker (λ e. ends_keys kind L e ≡ false) (λ e. not (ends_keys kind L e) ≡ true) (λ e off. ap not off) (found.0 ++ entry ∷ []) lasts)
              in
              let lives = lives_of-push before alive.before found.0 alive.position alive.number n L kind key entry found.2 longer in
              let earlier : Alive before n L kind key = record {
                before = alive.before;
                position = alive.position;
                number = alive.number;
                later = found.0;
                split = found.2;
                lasts = All-front (λ e. ends_keys kind L e ≡ false) found.0 (entry ∷ []) lasts;
              } in
              one_more before entry n L upper (λ none. not_first alive.before own found.0 (sym found.2 ∙ none)) next (lives ∙ ap (λ b. lives_of before n ++ (if b then configurations_opened_by L entry else [])) on) (lived earlier)
        ]
