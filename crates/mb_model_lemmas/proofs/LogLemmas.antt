-- What the entries of a log say together, after one more.
use Rattle.std.proofs.Common.{◌≡◌, ◌≢◌, ◌⊎◌, inl, inr, ◌≤◌, ◌<◌, ℕ, ◌+◌, List, [], ◌∷◌, ◌++◌, length, take, get_or, Option, None, Some, Bool, true, false, cond, refl, sym, ap, subst, ◌∙◌, arith, append_assoc, length-append}
use Rattle.std.specs.Prelude.{◌||◌, take_while, reverse, is_some, is_none, unwrap_or, All, if◌then◌else◌}
use Rattle.std.specs.List.{list_any}
use Rattle.std.specs.Option.{option_or}
use Rattle.std.proofs.lemmas.List.Folds.{list_any-append}
use Rattle.std.proofs.lemmas.List.{reverse-append, append-nil, map-append, length-map, take_more}
use Rattle.std.proofs.lemmas.List.Elements.{All-tail, All-head}
use Rattle.std.proofs.Math.Seq.{append_snoc}
use Rattle.std.proofs.lemmas.List.Sums.{sum_by_push, sum_by-append, sum_by-cons, count_by-le-length, take_while-cons}
use Rattle.mb_model.specs.declared.key.PublicKey.{PublicKey}
use Rattle.mb_model.specs.declared.layer.Layers.{Layers}
use Rattle.mb_model.specs.declared.layer.Pair.{Pair}
use Rattle.mb_model.specs.declared.order.ChangeKind.{ChangeKind}
use Rattle.mb_model.specs.declared.entry.Entry.{Entry}
use Rattle.mb_model.specs.declared.entry.Entry.TheVariants.{Birth, Change, NewKey, Succession}
use Rattle.mb_model.specs.declared.entry.SignedEntry.{SignedEntry}
use Rattle.mb_model.specs.owners.Layers.{unowned_layers}
use Rattle.mb_model.specs.owners.Log.{figures_of, entries_of, is_change, layers_in, device_in, keys_in, last_of, number_of, layers_of, device_of, uses_of_device_key, keys_made_by, is_version_two, has_version_two, Ruled, RuledLog, serial_in, serial_of}
use Rattle.mb_model_lemmas.proofs.LineLemmas.{cons_same}
use Rattle.mb_model_lemmas.proofs.ListLemmas.{not_first}

pub number_of-push : (log : List Entry) (entry : Entry) → number_of (log ++ entry ∷ []) ≡ number_of log + (if is_change entry then 1 else 0)
unfolding number_of
number_of-push log entry = sum_by_push (λ e. cond (is_change e) 1 0) log entry

pub made-push : (log : List Entry) (entry : Entry) → keys_made_by (log ++ entry ∷ []) ≡ keys_made_by log + keys_in entry
unfolding keys_made_by
made-push log entry = sum_by_push keys_in log entry

or_false : (b : Bool) → (b || false) ≡ b
or_false true = refl
or_false false = refl

-- some entry has version 2 where one had, or the new one has
pub has_version_two-push : (log : List Entry) (entry : Entry) → has_version_two (log ++ entry ∷ []) ≡ (has_version_two log || is_version_two entry)
unfolding has_version_two
has_version_two-push log entry = list_any-append is_version_two log (entry ∷ []) ∙ ap (λ b. list_any is_version_two log || b) (or_false (is_version_two entry))

option_or_assoc : {X : Type 0} (a b c : Option X) → option_or (option_or a b) c ≡ option_or a (option_or b c)
option_or_assoc None b c = refl
option_or_assoc (Some a) b c = refl

-- what is named last is what the last entry names, or else what is named last before it
pub last_of-push : {X : Type 0} (named : Entry → Option X) (log : List Entry) (entry : Entry) → last_of named (log ++ entry ∷ []) ≡ option_or (named entry) (last_of named log)
unfolding last_of
last_of-push named [] entry = elim (named entry) as (λ o. option_or None o ≡ option_or o None) [ None ↦ refl | Some x ↦ refl ]
last_of-push named (first ∷ rest) entry =
    ap (λ o. option_or o (named first)) (last_of-push named rest entry)
    ∙ option_or_assoc (named entry) (last_of named rest) (named first)

unwrap_or-option_or : {X : Type 0} (a b : Option X) (d : X) → unwrap_or (option_or a b) d ≡ unwrap_or a (unwrap_or b d)
unwrap_or-option_or None b d = refl
unwrap_or-option_or (Some a) b d = refl

pub layers_of-push : (log : List Entry) (entry : Entry) → layers_of (log ++ entry ∷ []) ≡ unwrap_or (layers_in entry) (layers_of log)
unfolding layers_of
layers_of-push log entry =
    ap (λ o. unwrap_or o unowned_layers) (last_of-push layers_in log entry)
    ∙ unwrap_or-option_or (layers_in entry) (last_of layers_in log) unowned_layers

pub device_of-push : (log : List Entry) (entry : Entry) → device_of (log ++ entry ∷ []) ≡ option_or (device_in entry) (device_of log)
unfolding device_of
device_of-push log entry = last_of-push device_in log entry

pub serial_of-push : (log : List Entry) (entry : Entry) → serial_of (log ++ entry ∷ []) ≡ option_or (serial_in entry) (serial_of log)
unfolding serial_of
serial_of-push log entry = last_of-push serial_in log entry

length-taken : (keeps : Entry → Bool) (entry : Entry) (rest : List Entry)
    → length (take_while keeps (entry ∷ rest)) ≡ (if keeps entry then length (take_while keeps rest) + 1 else 0)
length-taken keeps entry rest =
    ap length (take_while-cons keeps entry rest)
    ∙ elim (keeps entry) as (λ b. length (cond b (entry ∷ take_while keeps rest) []) ≡ cond b (length (take_while keeps rest) + 1) 0) [ false ↦ refl | true ↦ omega arith ]

unless_named : (key : Option PublicKey) (n : ℕ) → (if is_none key then n + 1 else 0) ≡ (if is_some key then 0 else n + 1)
unless_named None n = refl
unless_named (Some key) n = refl

pub used-push : (log : List Entry) (entry : Entry) → uses_of_device_key (log ++ entry ∷ []) ≡ (if is_some (device_in entry) then 0 else uses_of_device_key log + 1)
unfolding uses_of_device_key
used-push log entry =
    ap (λ es. length (take_while (λ e. is_none (device_in e)) es)) (reverse-append log (entry ∷ []))
    ∙ length-taken (λ e. is_none (device_in e)) entry (reverse log)
    ∙ unless_named (device_in entry) (length (take_while (λ e. is_none (device_in e)) (reverse log)))

used-nil : uses_of_device_key [] ≡ 0
unfolding uses_of_device_key
used-nil = refl

-- nothing is named by the entries
abbrev pub NoneNames : {X : Type 0} → (Entry → Option X) → List Entry → Type 0
NoneNames named entries = All (λ e. named e ≡ None) entries

-- entries that name nothing leave what is named last
pub last_of-more : {X : Type 0} (named : Entry → Option X) (log rest : List Entry) → NoneNames named rest → last_of named (log ++ rest) ≡ last_of named log
last_of-more named log [] none = ap (last_of named) (append-nil log)
last_of-more named log (entry ∷ rest) none =
    ap (last_of named) (sym (append_snoc log entry rest))
    ∙ last_of-more named (log ++ entry ∷ []) rest (All-tail (λ e. named e ≡ None) entry rest none)
    ∙ last_of-push named log entry
    ∙ ap (λ o. option_or o (last_of named log)) (All-head (λ e. named e ≡ None) entry rest none)

-- what is named last is named by an entry after which none names such a thing
pub last_of-split : {X : Type 0} (named : Entry → Option X) (before : List Entry) (entry : Entry) (rest : List Entry) (x : X)
    → named entry ≡ Some x → NoneNames named rest → last_of named (before ++ entry ∷ rest) ≡ Some x
last_of-split named before entry rest x is none =
    ap (last_of named) (sym (append_snoc before entry rest))
    ∙ last_of-more named (before ++ entry ∷ []) rest none
    ∙ last_of-push named before entry
    ∙ ap (λ o. option_or o (last_of named before)) is

pub layers_of-split : (before : List Entry) (entry : Entry) (rest : List Entry) (layers : Layers)
    → layers_in entry ≡ Some layers → NoneNames layers_in rest → layers_of (before ++ entry ∷ rest) ≡ layers
unfolding layers_of
layers_of-split before entry rest layers is none =
    ap (λ o. unwrap_or o unowned_layers) (last_of-split layers_in before entry rest layers is none)

pub device_of-split : (before : List Entry) (entry : Entry) (rest : List Entry) (key : PublicKey)
    → device_in entry ≡ Some key → NoneNames device_in rest → device_of (before ++ entry ∷ rest) ≡ Some key
unfolding device_of
device_of-split before entry rest key is none = last_of-split device_in before entry rest key is none

-- each entry that names no device key is one more that the present one signed
pub used-more : (log rest : List Entry) → NoneNames device_in rest → uses_of_device_key (log ++ rest) ≡ uses_of_device_key log + length rest
used-more log [] none = ap uses_of_device_key (append-nil log) ∙ omega arith
used-more log (entry ∷ rest) none =
    let no : device_in entry ≡ None = All-head (λ e. device_in e ≡ None) entry rest none in
    let one : uses_of_device_key (log ++ entry ∷ []) ≡ uses_of_device_key log + 1 = used-push log entry ∙ ap (λ o. if is_some o then 0 else uses_of_device_key log + 1) no in
    let more : uses_of_device_key (log ++ entry ∷ [] ++ rest) ≡ uses_of_device_key (log ++ entry ∷ []) + length rest = used-more (log ++ entry ∷ []) rest (All-tail (λ e. device_in e ≡ None) entry rest none) in
    ap uses_of_device_key (sym (append_snoc log entry rest)) ∙ omega (arith, one, more)

pub used-split : (before : List Entry) (entry : Entry) (rest : List Entry) (key : PublicKey)
    → device_in entry ≡ Some key → NoneNames device_in rest → uses_of_device_key (before ++ entry ∷ rest) ≡ length rest
used-split before entry rest key is none =
    let zero : uses_of_device_key (before ++ entry ∷ []) ≡ 0 = used-push before entry ∙ ap (λ o. if is_some o then 0 else uses_of_device_key before + 1) is in
    let more : uses_of_device_key (before ++ entry ∷ [] ++ rest) ≡ uses_of_device_key (before ++ entry ∷ []) + length rest = used-more (before ++ entry ∷ []) rest none in
    ap uses_of_device_key (sym (append_snoc before entry rest)) ∙ omega (arith, zero, more)

-- a place in a list with one more at the end is that end, or stands before it
pub split_push : {X : Type 0} (xs ys zs : List X) (x y : X) → xs ++ x ∷ [] ≡ ys ++ y ∷ zs
    → ((zs ≡ []) × (xs ≡ ys) × (x ≡ y)) ⊎ ((more : List X) × (zs ≡ more ++ x ∷ []) × (xs ≡ ys ++ y ∷ more))
split_push [] [] zs x y e =
    let parts = cons_same x y [] zs e in
    inl (sym parts.1, refl, parts.0)
split_push (a ∷ xs) [] zs x y e =
    let parts = cons_same a y (xs ++ x ∷ []) zs e in
    inr (xs, sym parts.1, ap (λ b. b ∷ xs) parts.0)
split_push [] (b ∷ ys) zs x y e =
    let parts = cons_same x b [] (ys ++ y ∷ zs) e in
    absurd (omega (arith, ap length parts.1, length-append ys (y ∷ zs)))
split_push (a ∷ xs) (b ∷ ys) zs x y e =
    let parts = cons_same a b (xs ++ x ∷ []) (ys ++ y ∷ zs) e in
    elim (split_push xs ys zs x y parts.1) [
      | inl end ↦ inl (end.0, ap (λ h. h ∷ xs) parts.0 ∙ ap (λ t. b ∷ t) end.1, end.2)
      | inr found ↦ inr (found.0, found.1, ap (λ h. h ∷ xs) parts.0 ∙ ap (λ t. b ∷ t) found.2)
    ]

-- the first entries of a log that obeys the rules obey them
pub RuledLog-front : (log rest : List Entry) → RuledLog (log ++ rest) → RuledLog log
RuledLog-front log rest ruled =
    λ before entry mid split. ruled before entry (mid ++ rest) (ap (λ es. es ++ rest) split ∙ append_assoc before (entry ∷ mid) rest)

-- a log that obeys the rules, and one more entry that they allow
pub RuledLog-push : (log : List Entry) (entry : Entry) → RuledLog log → Ruled (figures_of log) entry → RuledLog (log ++ entry ∷ [])
RuledLog-push log entry ruled next =
    λ before e rest split. elim (split_push log before rest entry e split) [
      | inl end ↦ subst (λ (b : List Entry). Ruled (figures_of b) e) end.1 (subst (λ (x : Entry). Ruled (figures_of log) x) end.2 next)
      | inr found ↦ ruled before e found.0 found.2
    ]

pub RuledLog-nil : RuledLog []
RuledLog-nil = λ before entry rest split. absurd (omega (arith, ap length split, length-append before (entry ∷ rest)))

-- What holds of no entries, and of one more where it holds of those before, holds of each log that obeys the rules.
module _ (P : List Entry → Type 0) (step : (before : List Entry) (entry : Entry) → RuledLog before → P before → Ruled (figures_of before) entry → P (before ++ entry ∷ [])) where
  from_here : (before rest : List Entry) → P before → RuledLog (before ++ rest) → P (before ++ rest)
  from_here before [] holds ruled = subst P (sym (append-nil before)) holds
  from_here before (entry ∷ rest) holds ruled =
      let seam = append_snoc before entry rest in
      let more = step before entry (RuledLog-front before (entry ∷ rest) ruled) holds (ruled before entry rest refl) in
      subst P seam (from_here (before ++ entry ∷ []) rest more (subst RuledLog (sym seam) ruled))

  pub by_entries : P [] → (log : List Entry) → RuledLog log → P log
  by_entries nil log ruled = from_here [] log nil ruled

used_one_more : (before : List Entry) (entry : Entry) → RuledLog before → uses_of_device_key before ≤ 31 → Ruled (figures_of before) entry → uses_of_device_key (before ++ entry ∷ []) ≤ 31
used_one_more before (Birth version serial key layers) log few ruled = omega (arith, used-push before (Birth version serial key layers))
used_one_more before (Change version position number kind layer cosigned layers kept None) log few ruled =
    let not_last : uses_of_device_key before ≢ 31 = λ e. (grind (arith, ruled.1.last_index e)) in
    omega (arith, used-push before (Change version position number kind layer cosigned layers kept None), not_last)
used_one_more before (Change version position number kind layer cosigned layers kept (Some next)) log few ruled =
    omega (arith, used-push before (Change version position number kind layer cosigned layers kept (Some next)))
used_one_more before (NewKey position number key_number layer kind key) log few ruled =
    omega (arith, used-push before (NewKey position number key_number layer kind key), ruled.1.last_index)
used_one_more before (Succession position key) log few ruled = omega (arith, used-push before (Succession position key))

-- a device key has an index left
pub used-bound : (log : List Entry) → RuledLog log → uses_of_device_key log ≤ 31
used-bound log ruled = by_entries (λ es. uses_of_device_key es ≤ 31) used_one_more (omega (arith, used-nil)) log ruled

-- numbers are small: no more changes and keys than entries
pub number_of-le-length : (log : List Entry) → number_of log ≤ length log
unfolding number_of
number_of-le-length log = count_by-le-length is_change log

keys_in-le : (entry : Entry) → keys_in entry ≤ 1
keys_in-le (Birth version serial key layers) = omega arith
keys_in-le (Change version position number kind layer cosigned layers kept None) = omega arith
keys_in-le (Change version position number kind layer cosigned layers kept (Some next)) = omega arith
keys_in-le (NewKey position number key_number layer kind key) = omega arith
keys_in-le (Succession position key) = omega arith

pub made-le-length : (log : List Entry) → keys_made_by log ≤ length log
unfolding keys_made_by
made-le-length [] = omega arith
made-le-length (entry ∷ rest) =
    let both : keys_made_by (entry ∷ rest) ≡ keys_in entry + keys_made_by rest = sum_by-cons keys_in entry rest in
    omega (arith, both, keys_in-le entry, made-le-length rest)

pub number_of-append : (log rest : List Entry) → number_of (log ++ rest) ≡ number_of log + number_of rest
unfolding number_of
number_of-append log rest = sum_by-append (λ e. cond (is_change e) 1 0) log rest

number_of-change : (version position number : ℕ) (kind : ChangeKind) (k : ℕ) (cosigned : Pair) (layers : Layers) (kept : Pair) (next : Option PublicKey) (rest : List Entry)
    → number_of (Change version position number kind k cosigned layers kept next ∷ rest) ≡ 1 + number_of rest
unfolding number_of
number_of-change version position number kind k cosigned layers kept next rest =
    sum_by-cons (λ e. cond (is_change e) 1 0) (Change version position number kind k cosigned layers kept next) rest

-- no change of a log has a number above the log's
pub number-le : (log before : List Entry) (version position number : ℕ) (kind : ChangeKind) (k : ℕ) (cosigned : Pair) (layers : Layers) (kept : Pair) (next : Option PublicKey) (rest : List Entry)
    → RuledLog log → log ≡ before ++ Change version position number kind k cosigned layers kept next ∷ rest → number ≤ number_of log
number-le log before version position number kind k cosigned layers kept next rest ruled split =
    let own : number ≡ number_of before + 1 = (ruled before (Change version position number kind k cosigned layers kept next) rest split).1.counted in
    let whole : number_of log ≡ number_of before + number_of (Change version position number kind k cosigned layers kept next ∷ rest) = ap number_of split ∙ number_of-append before _ in
    omega (arith, own, whole, number_of-change version position number kind k cosigned layers kept next rest)

-- a signed entry has one entry
pub length-entries_of : (log : List SignedEntry) → length (entries_of log) ≡ length log
length-entries_of log = length-map log (λ (s : SignedEntry). s.entry)

-- the entries up to one more
pub entries_more : (log : List SignedEntry) (i : ℕ) (d : SignedEntry) → i < length log
    → entries_of (take (i + 1) log) ≡ entries_of (take i log) ++ (get_or log i d).entry ∷ []
entries_more log i d within =
    ap entries_of (take_more log i d within)
    ∙ map-append (λ (s : SignedEntry). s.entry) (take i log) (get_or log i d ∷ [])

-- ---- more entries

-- no entry but the first is a birth
pub no_birth : (before : List Entry) (entry : Entry) → before ≢ [] → Ruled (figures_of before) entry → serial_in entry ≡ None
no_birth [] entry some ruled = absurd (some refl)
no_birth (x ∷ xs) (Birth version serial key layers) some ruled = absurd (omega (arith, ruled.0))
no_birth (x ∷ xs) (Change version position number kind layer cosigned layers kept next) some ruled = refl
no_birth (x ∷ xs) (NewKey position number key_number layer kind key) some ruled = refl
no_birth (x ∷ xs) (Succession position key) some ruled = refl

no_layers : (entry : Entry) → serial_in entry ≡ None → is_change entry ≡ false → layers_in entry ≡ None
no_layers (Birth version serial key layers) no_serial quiet = absurd (grind (arith, no_serial))
no_layers (Change version position number kind layer cosigned layers kept next) no_serial quiet = absurd (grind (arith, quiet))
no_layers (NewKey position number key_number layer kind key) no_serial quiet = refl
no_layers (Succession position key) no_serial quiet = refl

-- the serial is that of the first entry
pub serial_on : (rest front : List Entry) (serial : List ℕ) → front ≢ [] → RuledLog (front ++ rest) → serial_of front ≡ Some serial → serial_of (front ++ rest) ≡ Some serial
serial_on [] front serial some ruled is = ap serial_of (append-nil front) ∙ is
serial_on (entry ∷ rest) front serial some ruled is =
    let more : List Entry = front ++ entry ∷ [] in
    let whole : more ++ rest ≡ front ++ entry ∷ rest = append_assoc front (entry ∷ []) rest in
    let none : serial_in entry ≡ None = no_birth front entry some (ruled front entry rest refl) in
    let now : serial_of more ≡ Some serial = serial_of-push front entry ∙ ap (λ (o : Option (List ℕ)). option_or o (serial_of front)) none ∙ is in
    ap serial_of (sym whole) ∙ serial_on rest more serial (not_first front entry []) (subst RuledLog (sym whole) ruled) now

one_if : Bool → ℕ
one_if b = if b then 1 else 0

quiet_if : (b : Bool) → one_if b ≡ 0 → b ≡ false
unfolding one_if
quiet_if true e = absurd (omega (arith, e))
quiet_if false e = refl

-- entries without a change leave the layers
pub layers_on : (rest front : List Entry) → front ≢ [] → RuledLog (front ++ rest) → number_of (front ++ rest) ≡ number_of front → layers_of (front ++ rest) ≡ layers_of front
unfolding one_if
layers_on [] front some ruled same = ap layers_of (append-nil front)
layers_on (entry ∷ rest) front some ruled same =
    let more : List Entry = front ++ entry ∷ [] in
    let whole : more ++ rest ≡ front ++ entry ∷ rest = append_assoc front (entry ∷ []) rest in
    let counted : number_of more ≡ number_of front + one_if (is_change entry) = number_of-push front entry in
    let total : number_of (front ++ entry ∷ rest) ≡ number_of more + number_of rest = ap number_of (sym whole) ∙ number_of-append more rest in
    let quiet : is_change entry ≡ false = quiet_if (is_change entry) (omega (arith, same, counted, total)) in
    let still : number_of (more ++ rest) ≡ number_of more = ap number_of whole ∙ omega (arith, same, counted, total) in
    let none : layers_in entry ≡ None = no_layers entry (no_birth front entry some (ruled front entry rest refl)) quiet in
    ap layers_of (sym whole) ∙ layers_on rest more (not_first front entry []) (subst RuledLog (sym whole) ruled) still
    ∙ layers_of-push front entry ∙ ap (λ (o : Option Layers). unwrap_or o (layers_of front)) none
