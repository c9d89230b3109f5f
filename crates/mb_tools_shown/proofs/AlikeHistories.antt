-- Two chains whose histories are one text have the same entries, but for what a history does not tell.
use Rattle.std.proofs.Common.{◌≡◌, ◌≢◌, ◌⊎◌, ℕ, suc, ◌+◌, ◌<◌, ◌^◌, List, [], ◌∷◌, ◌++◌, length, get_or, Bool, true, false, Option, None, Some, inl, inr, refl, sym, ap, subst, ◌∙◌, arith, rules, append_assoc}
use Rattle.std.specs.Prelude.{◌==◌, codes, flat_map, if◌then◌else◌, unwrap_or, Any}
use Rattle.std.specs.Fmt.{decimal}
use Rattle.std.specs.List.{AllZip}
use Rattle.std.specs.Option.{option_or}
use Rattle.std.proofs.Math.Seq.{append_snoc}
use Rattle.std.proofs.lemmas.Fmt.{decimal_digit}
use Rattle.std.proofs.lemmas.List.{append_cancel_left}
use Rattle.mb_format.specs.Format.{IsBytes}
use Rattle.mb_format.proofs.Exact.{IsBytes-none}
use Rattle.mb_model.specs.declared.layer.Layers.{Layers}
use Rattle.mb_model.specs.declared.layer.Pair.{Pair}
use Rattle.mb_model.specs.declared.order.ChangeKind.{ChangeKind}
use Rattle.mb_model.specs.declared.order.ChangeKind.TheVariants as kinds
use Rattle.mb_model.specs.declared.order.KeyKind.{KeyKind}
use Rattle.mb_model.specs.declared.order.KeyKind.TheVariants as key_kinds
use Rattle.mb_model.specs.declared.entry.Chain.{Chain}
use Rattle.mb_model.specs.declared.entry.Entry.{Entry}
use Rattle.mb_model.specs.declared.entry.Entry.TheVariants.{Birth, Change, NewKey, Succession}
use Rattle.mb_model.specs.declared.entry.Said.{Said}
use Rattle.mb_model.specs.declared.entry.Said.TheVariants.{Message, Answer}
use Rattle.mb_model.specs.declared.entry.Statement.{Statement}
use Rattle.mb_model.specs.owners.Log.{entries_of, figures_of, is_change, layers_in, last_of, number_of, Ruled, RuledLog, serial_in, serial_of}
use Rattle.mb_model.specs.chains.Drafts.{kind_word}
use Rattle.mb_model.specs.outside.Texts.{line_with_lf}
use Rattle.mb_model.specs.chains.Lines.{hex_word, spaced_words, text_of}
use Rattle.mb_model_lemmas.proofs.ChainLemmas.{good_is_ruled}
use Rattle.mb_model_lemmas.proofs.LineLemmas.{cons_same}
use Rattle.mb_model_lemmas.proofs.LogLemmas.{number_of-push}
use Rattle.mb_verifier.proofs.Listed.{text_of-append}
use Rattle.mb_tools_shown.specs.HistoryLaws.{TellTheSame, NamesOwner, OwnersCollide, HistoriesTellEntries}
use Rattle.mb_tools_shown.specs.HistoryShown.{change_word, pair_word, entry_lines, life_lines, signed_words, signed_line, signed_lines, history_shown}
use Rattle.mb_tools_shown.specs.LayersShown.{layers_shown}
use Rattle.mb_tools_shown.specs.StateShown.{serial_shown}
use Rattle.mb_tools_shown.proofs.AlikeLayers.{space, lf, letters, number_read, bytes_read, LayersCollide, layers_read}
use Rattle.mb_tools_shown.proofs.FittingEntries.{EntryFits, EachFits, chain_fits}

-- ---- words

change_read : (one other : ChangeKind) (xs ys : List ℕ) → change_word one ++ 32 ∷ xs ≡ change_word other ++ 32 ∷ ys → (one ≡ other) × (xs ≡ ys)
change_read kinds.Establish kinds.Establish xs ys e = (refl, append_cancel_left (codes "establish ") xs ys e)
change_read kinds.Surrender kinds.Surrender xs ys e = (refl, append_cancel_left (codes "surrender ") xs ys e)
change_read kinds.Load kinds.Load xs ys e = (refl, append_cancel_left (codes "load ") xs ys e)
change_read kinds.Emergency kinds.Emergency xs ys e = (refl, append_cancel_left (codes "emergency ") xs ys e)
change_read one other xs ys e = absurd (omega (arith, ap letters e))

kind_read : (one other : KeyKind) (xs ys : List ℕ) → kind_word one ++ 32 ∷ xs ≡ kind_word other ++ 32 ∷ ys → (one ≡ other) × (xs ≡ ys)
kind_read key_kinds.Epoch key_kinds.Epoch xs ys e = (refl, append_cancel_left (codes "epoch ") xs ys e)
kind_read key_kinds.Configuration key_kinds.Configuration xs ys e = (refl, append_cancel_left (codes "configuration ") xs ys e)
kind_read one other xs ys e = absurd (omega (arith, ap letters e))

-- the layers whose numbers stand first
abbrev two_at : List ℕ → Bool
two_at text = get_or text 0 0 == 50

abbrev three_at : List ℕ → Bool
three_at text = if get_or text 1 0 == 44 then true else get_or text 0 0 == 51

abbrev pair_of : Bool → Bool → Pair
pair_of two three = record { two = two; three = three }

two_told : (two three : Bool) (more : List ℕ) → two_at (pair_word (pair_of two three) ++ more) ≡ two
two_told true true more = refl
two_told true false more = refl
two_told false true more = refl
two_told false false more = refl

three_told : (s : ℕ) (two three : Bool) (more : List ℕ) → (s == 44) ≡ false → three_at (pair_word (pair_of two three) ++ s ∷ more) ≡ three
three_told s true true more apart = refl
three_told s true false more apart = ap (λ (b : Bool). if b then true else false) apart
three_told s false true more apart = ap (λ (b : Bool). if b then true else true) apart
three_told s false false more apart = ap (λ (b : Bool). if b then true else false) apart

same_pair : (one other : Pair) → (one.two ≡ other.two) × (one.three ≡ other.three) → one ≡ other
same_pair one other parts = search (rules, parts)

pair_read : (s : ℕ) (one other : Pair) (xs ys : List ℕ) → (s == 44) ≡ false → pair_word one ++ s ∷ xs ≡ pair_word other ++ s ∷ ys → (one ≡ other) × (xs ≡ ys)
pair_read s one other xs ys apart e =
    let two : one.two ≡ other.two = sym (two_told one.two one.three (s ∷ xs)) ∙ ap two_at e ∙ two_told other.two other.three (s ∷ ys) in
    let three : one.three ≡ other.three = sym (three_told s one.two one.three xs apart) ∙ ap three_at e ∙ three_told s other.two other.three ys apart in
    let same : one ≡ other = same_pair one other (two, three) in
    let rest = append_cancel_left (pair_word other) (s ∷ xs) (s ∷ ys) (ap (λ (p : Pair). pair_word p ++ s ∷ xs) (sym same) ∙ e) in
    (same, (cons_same s s xs ys rest).1)

-- ---- an entry

-- the position that an entry's line tells
abbrev place : Entry → ℕ
place (Birth version serial key layers) = 0
place (Change version position number kind layer cosigned layers kept next) = position
place (NewKey position number key_number layer kind key) = position
place (Succession position key) = position

-- what follows the position in the lines of an entry, before more text
abbrev after_place : Entry → List ℕ → List ℕ
after_place (Birth version serial key layers) more = codes "birth" ++ 10 ∷ (text_of (layers_shown layers) ++ more)
after_place (Change version position number kind layer cosigned layers kept next) more =
    change_word kind ++ 32 ∷ (decimal layer ++ 32 ∷ (codes "configuration " ++ (decimal number ++ 32 ∷ (codes "countersigned " ++ (pair_word cosigned ++ 32 ∷ (codes "kept " ++ (pair_word kept ++ 10 ∷ (text_of (layers_shown layers) ++ more))))))))
after_place (NewKey position number key_number layer kind key) more = codes "newkey " ++ (decimal key_number ++ 32 ∷ (kind_word kind ++ 32 ∷ (codes "layer " ++ (decimal layer ++ 10 ∷ more))))
after_place (Succession position key) more = codes "succession" ++ 10 ∷ more

entry_written : (entry : Entry) (more : List ℕ) → text_of (entry_lines entry) ++ more ≡ codes "entry " ++ (decimal (place entry) ++ 32 ∷ after_place entry more)
entry_written (Birth version serial key layers) more =
    ap (λ (zero_word : List ℕ). codes "entry " ++ (zero_word ++ 32 ∷ (codes "birth" ++ 10 ∷ (text_of (layers_shown layers) ++ more)))) (sym (decimal_digit 0 (omega arith)))
entry_written (Change version position number kind layer cosigned layers kept next) more = simp append_assoc
entry_written (NewKey position number key_number layer kind key) more = simp append_assoc
entry_written (Succession position key) more = simp append_assoc

-- which of the four an entry is, and what tells it
abbrev sort : Entry → ℕ
sort (Birth version serial key layers) = 0
sort (Change version position number kind layer cosigned layers kept next) = 1
sort (NewKey position number key_number layer kind key) = 2
sort (Succession position key) = 3

abbrev sort_at : List ℕ → ℕ
sort_at text = if letters text == 6449522 then 0 else if letters text == 7234935 then 2 else if letters text == 7566691 then 3 else 1

changes_sorted : (kind : ChangeKind) (more : List ℕ) → sort_at (change_word kind ++ 32 ∷ more) ≡ 1
changes_sorted kinds.Establish more = refl
changes_sorted kinds.Surrender more = refl
changes_sorted kinds.Load more = refl
changes_sorted kinds.Emergency more = refl

sort_told : (entry : Entry) (more : List ℕ) → sort_at (after_place entry more) ≡ sort entry
sort_told (Birth version serial key layers) more = refl
sort_told (Change version position number kind layer cosigned layers kept next) more = changes_sorted kind _
sort_told (NewKey position number key_number layer kind key) more = refl
sort_told (Succession position key) more = refl

-- ---- what the rules say of entries

-- a birth names this serial
abbrev BornWith : List ℕ → Entry → Type 0
BornWith named (Birth version serial key layers) = serial ≡ named
BornWith named (Change version position number kind layer cosigned layers kept next) = Unit {0}
BornWith named (NewKey position number key_number layer kind key) = Unit {0}
BornWith named (Succession position key) = Unit {0}

abbrev EachBorn : List ℕ → List Entry → Type 0
EachBorn named [] = Unit {0}
EachBorn named (entry ∷ entries) = BornWith named entry × EachBorn named entries

-- a change has the next configuration number, and a new key the number of the last change
abbrev NumberedAfter : ℕ → Entry → Type 0
NumberedAfter count (Birth version serial key layers) = Unit {0}
NumberedAfter count (Change version position number kind layer cosigned layers kept next) = Unit {0}
NumberedAfter count (NewKey position number key_number layer kind key) = number ≡ count
NumberedAfter count (Succession position key) = Unit {0}

abbrev changes_in : Entry → ℕ
changes_in entry = if is_change entry then 1 else 0

abbrev EachNumbered : ℕ → List Entry → Type 0
EachNumbered count [] = Unit {0}
EachNumbered count (entry ∷ entries) = NumberedAfter count entry × EachNumbered (count + changes_in entry) entries

numbered_after : (before : List Entry) (entry : Entry) → Ruled (figures_of before) entry → NumberedAfter (number_of before) entry
numbered_after before (Birth version serial key layers) ruled = tt
numbered_after before (Change version position number kind layer cosigned layers kept next) ruled = tt
numbered_after before (NewKey position number key_number layer kind key) ruled = ruled.1.counted
numbered_after before (Succession position key) ruled = tt

each_numbered : (before entries : List Entry) → RuledLog (before ++ entries) → EachNumbered (number_of before) entries
each_numbered before [] ruled = tt
each_numbered before (entry ∷ entries) ruled = (
  numbered_after before entry (ruled before entry entries refl),
  subst (λ (n : ℕ). EachNumbered n entries) (number_of-push before entry)
      (each_numbered (before ++ entry ∷ []) entries (subst RuledLog (sym (append_snoc before entry entries)) ruled)),
)

-- an entry after others is no birth
not_born : (before : List Entry) (entry : Entry) (named : List ℕ) → 0 < length before → Ruled (figures_of before) entry → BornWith named entry × (serial_in entry ≡ None)
not_born before (Birth version serial key layers) named some ruled = absurd (omega (arith, some, ruled.0))
not_born before (Change version position number kind layer cosigned layers kept next) named some ruled = (tt, refl)
not_born before (NewKey position number key_number layer kind key) named some ruled = (tt, refl)
not_born before (Succession position key) named some ruled = (tt, refl)

none_born : (before entries : List Entry) (named : List ℕ) → 0 < length before → RuledLog (before ++ entries) → EachBorn named entries × (last_of serial_in entries ≡ None)
unfolding last_of
none_born before [] named some ruled = (tt, refl)
none_born before (entry ∷ entries) named some ruled =
    let own = not_born before entry named some (ruled before entry entries refl) in
    let rest = none_born (before ++ entry ∷ []) entries named (longer before entry) (subst RuledLog (sym (append_snoc before entry entries)) ruled) in
    ((own.0, rest.0), ap (λ (o : Option (List ℕ)). option_or o (serial_in entry)) rest.1 ∙ own.1)
  where
    longer : (front : List Entry) (entry : Entry) → 0 < length (front ++ entry ∷ [])
    longer [] entry = omega arith
    longer (first ∷ front) entry = omega arith

abbrev serial_told : List Entry → List ℕ
serial_told log = unwrap_or (serial_of log) []

-- the first entry names the serial, which is bytes
each_born : (log : List Entry) → RuledLog log → EachFits log → EachBorn (serial_told log) log × IsBytes (serial_told log)
unfolding serial_of last_of
each_born [] ruled fits = (tt, IsBytes-none)
each_born (Birth version serial key layers ∷ log) ruled fits =
    let first : Entry = Birth version serial key layers in
    let rest = none_born (first ∷ []) log (serial_told (first ∷ log)) (omega arith) ruled in
    let named : serial ≡ serial_told (first ∷ log) = sym (ap (λ (o : Option (List ℕ)). unwrap_or (option_or o (Some serial)) []) rest.1) in
    ((named, rest.0), subst IsBytes named fits.0.0)
each_born (Change version position number kind layer cosigned layers kept next ∷ log) ruled fits = absurd ((ruled [] (Change version position number kind layer cosigned layers kept next) log refl).0 refl)
each_born (NewKey position number key_number layer kind key ∷ log) ruled fits = absurd ((ruled [] (NewKey position number key_number layer kind key) log refl).0 refl)
each_born (Succession position key ∷ log) ruled fits = absurd ((ruled [] (Succession position key) log refl).0 refl)

-- ---- two entries

-- of the layers that two entries leave, the owners have different keys with one hash
record EntriesCollide (one other : Entry) : Type 0 where
  layers : Layers
  others : Layers
  named : layers_in one ≡ Some layers
  also : layers_in other ≡ Some others
  collide : LayersCollide layers others

-- two entries tell the same before the same text, or collide
AreAlike : Entry → Entry → List ℕ → List ℕ → Type 0
AreAlike one other xs ys = (TellTheSame one other × ((changes_in one ≡ changes_in other) × (xs ≡ ys))) ⊎ EntriesCollide one other

place_small : (entry : Entry) → EntryFits entry → place entry < 2 ^ 64
place_small (Birth version serial key layers) fits = omega arith
place_small (Change version position number kind layer cosigned layers kept next) fits = fits.0
place_small (NewKey position number key_number layer kind key) fits = fits.0
place_small (Succession position key) fits = fits

-- what follows the positions is read back
rest_read : (named : List ℕ) (count : ℕ) (one other : Entry) (xs ys : List ℕ) → EntryFits one → EntryFits other → BornWith named one → BornWith named other → NumberedAfter count one → NumberedAfter count other
    → place one ≡ place other → sort one ≡ sort other → after_place one xs ≡ after_place other ys → AreAlike one other xs ys
unfolding AreAlike
rest_read named count (Birth version serial key layers) (Birth version' serial' key' layers') xs ys fits also born also_born numbered also_numbered at sorts e =
    elim (layers_read layers layers' xs ys fits.1 also.1 (append_cancel_left (codes "birth\n") _ _ e)) [
      | inl same ↦ inl ((born ∙ sym also_born, same.0), (refl, same.1))
      | inr collide ↦ inr (record { layers = layers; others = layers'; named = refl; also = refl; collide = collide })
    ]
rest_read named count (Change version position number kind layer cosigned layers kept next) (Change version' position' number' kind' layer' cosigned' layers' kept' next') xs ys fits also born also_born numbered also_numbered at sorts e =
    let changed = change_read kind kind' _ _ e in
    let layered = number_read 32 layer layer' _ _ space fits.2 also.2 changed.1 in
    let counted = number_read 32 number number' _ _ space fits.1 also.1 (append_cancel_left (codes "configuration ") _ _ layered.1) in
    let by = pair_read 32 cosigned cosigned' _ _ refl (append_cancel_left (codes "countersigned ") _ _ counted.1) in
    let regions = pair_read 10 kept kept' _ _ refl (append_cancel_left (codes "kept ") _ _ by.1) in
    elim (layers_read layers layers' xs ys fits.3 also.3 regions.1) [
      | inl same ↦ inl ((at, counted.0, changed.0, layered.0, by.0, same.0, regions.0), (refl, same.1))
      | inr collide ↦ inr (record { layers = layers; others = layers'; named = refl; also = refl; collide = collide })
    ]
rest_read named count (NewKey position number key_number layer kind key) (NewKey position' number' key_number' layer' kind' key') xs ys fits also born also_born numbered also_numbered at sorts e =
    let keyed = number_read 32 key_number key_number' _ _ space fits.1 also.1 (append_cancel_left (codes "newkey ") _ _ e) in
    let sorted = kind_read kind kind' _ _ keyed.1 in
    let layered = number_read 10 layer layer' xs ys lf fits.2 also.2 (append_cancel_left (codes "layer ") _ _ sorted.1) in
    inl ((at, numbered ∙ sym also_numbered, keyed.0, layered.0, sorted.0), (refl, layered.1))
rest_read named count (Succession position key) (Succession position' key') xs ys fits also born also_born numbered also_numbered at sorts e =
    inl (at, (refl, append_cancel_left (codes "succession\n") xs ys e))
rest_read named count one other xs ys fits also born also_born numbered also_numbered at sorts e = absurd (omega (arith, sorts))

entry_read : (named : List ℕ) (count : ℕ) (one other : Entry) (xs ys : List ℕ) → EntryFits one → EntryFits other → BornWith named one → BornWith named other → NumberedAfter count one → NumberedAfter count other
    → text_of (entry_lines one) ++ xs ≡ text_of (entry_lines other) ++ ys → AreAlike one other xs ys
entry_read named count one other xs ys fits also born also_born numbered also_numbered e =
    let text = append_cancel_left (codes "entry ") _ _ (sym (entry_written one xs) ∙ e ∙ entry_written other ys) in
    let placed = number_read 32 (place one) (place other) _ _ space (place_small one fits) (place_small other also) text in
    rest_read named count one other xs ys fits also born also_born numbered also_numbered placed.0 (sym (sort_told one xs) ∙ ap sort_at placed.1 ∙ sort_told other ys) placed.1

-- ---- all entries

-- the text does not begin with an entry
abbrev NoEntry : List ℕ → Type 0
NoEntry text = get_or text 0 0 ≢ 101

any_here : {X : Type 0} (P : X → Type 0) (x : X) (xs : List X) → P x → Any P (x ∷ xs)
any_here P x xs holds = (0, x, omega arith, refl, holds)

any_later : {X : Type 0} (P : X → Type 0) (x : X) (xs : List X) → Any P xs → Any P (x ∷ xs)
any_later P x xs (k, y, within, is, holds) = (suc k, y, omega (arith, within), is, holds)

collide_here : (one other : Entry) (log others : List Entry) → EntriesCollide one other → OwnersCollide (one ∷ log) (other ∷ others)
collide_here one other log others both = record {
  first = both.collide.collide.first;
  second = both.collide.collide.second;
  differ = both.collide.collide.differ;
  hash = both.collide.collide.hash;
  in_one = any_here (NamesOwner both.collide.collide.first) one log (record { layers = both.layers; named = both.named; layer = both.collide.layer; owned = both.collide.collide.is_first });
  in_other = any_here (NamesOwner both.collide.collide.second) other others (record { layers = both.others; named = both.also; layer = both.collide.layer; owned = both.collide.collide.is_second });
}

collide_later : (one other : Entry) (log others : List Entry) → OwnersCollide log others → OwnersCollide (one ∷ log) (other ∷ others)
collide_later one other log others both = record {
  first = both.first;
  second = both.second;
  differ = both.differ;
  hash = both.hash;
  in_one = any_later (NamesOwner both.first) one log both.in_one;
  in_other = any_later (NamesOwner both.second) other others both.in_other;
}

-- the text of entries, an entry first
text_split : (entry : Entry) (log : List Entry) (more : List ℕ) → text_of (flat_map entry_lines (entry ∷ log)) ++ more ≡ text_of (entry_lines entry) ++ (text_of (flat_map entry_lines log) ++ more)
text_split entry log more =
    ap (λ (t : List ℕ). t ++ more) (text_of-append (entry_lines entry) (flat_map entry_lines log)) ∙ append_assoc (text_of (entry_lines entry)) (text_of (flat_map entry_lines log)) more

begins_entry : (entry : Entry) (log : List Entry) (more : List ℕ) → get_or (text_of (flat_map entry_lines (entry ∷ log)) ++ more) 0 0 ≡ 101
begins_entry entry log more = ap (λ (t : List ℕ). get_or t 0 0) (text_split entry log more ∙ entry_written entry (text_of (flat_map entry_lines log) ++ more))

entries_read : (named : List ℕ) (count : ℕ) (log others : List Entry) (xs ys : List ℕ) → EachFits log → EachFits others → EachBorn named log → EachBorn named others
    → EachNumbered count log → EachNumbered count others → NoEntry xs → NoEntry ys
    → text_of (flat_map entry_lines log) ++ xs ≡ text_of (flat_map entry_lines others) ++ ys → AllZip TellTheSame log others ⊎ OwnersCollide log others
unfolding AreAlike
entries_read named count [] [] xs ys fits also born also_born numbered also_numbered none also_none e = inl tt
entries_read named count [] (other ∷ others) xs ys fits also born also_born numbered also_numbered none also_none e = absurd (none (ap (λ (t : List ℕ). get_or t 0 0) e ∙ begins_entry other others ys))
entries_read named count (one ∷ log) [] xs ys fits also born also_born numbered also_numbered none also_none e = absurd (also_none (ap (λ (t : List ℕ). get_or t 0 0) (sym e) ∙ begins_entry one log xs))
entries_read named count (one ∷ log) (other ∷ others) xs ys fits also born also_born numbered also_numbered none also_none e =
    elim (entry_read named count one other (text_of (flat_map entry_lines log) ++ xs) (text_of (flat_map entry_lines others) ++ ys) fits.0 also.0 born.0 also_born.0 numbered.0 also_numbered.0
    (sym (text_split one log xs) ∙ e ∙ text_split other others ys)) [
      | inr both ↦ inr (collide_here one other log others both)
      | inl same ↦ elim (entries_read named (count + changes_in one) log others xs ys fits.1 also.1 born.1 also_born.1 numbered.1
          (subst (λ (n : ℕ). EachNumbered (count + n) others) (sym same.1.0) also_numbered.1) none also_none same.1.1) [
            | inl all ↦ inl (same.0, all)
            | inr both ↦ inr (collide_later one other log others both)
          ]
    ]

-- ---- the whole

-- what stands after the entries begins with no entry
lives_begin : (log entries : List Entry) (more : List ℕ) → NoEntry more → NoEntry (text_of (flat_map (life_lines log) entries) ++ more)
lives_begin log [] more none = none
lives_begin log (Birth version serial key layers ∷ entries) more none = lives_begin log entries more none
lives_begin log (Change version position number kind layer cosigned layers kept next ∷ entries) more none = lives_begin log entries more none
lives_begin log (NewKey position number key_number layer kind key ∷ entries) more none = λ same. omega (arith, same)
lives_begin log (Succession position key ∷ entries) more none = lives_begin log entries more none

one_begins : (signer number : ℕ) (said : Said) → NoEntry (line_with_lf (spaced_words (signed_words signer number said)))
one_begins signer number (Message message) = λ same. omega (arith, same)
one_begins signer number (Answer input answer) = λ same. omega (arith, same)

begins_on : (line more : List ℕ) → NoEntry (line_with_lf line) → NoEntry (line_with_lf line ++ more)
begins_on [] more none = λ same. omega (arith, same)
begins_on (byte ∷ line) more none = none

signed_begins : (statement : Option Statement) (signer : Option ℕ) → NoEntry (text_of (signed_lines statement signer))
signed_begins None signer = λ same. omega (arith, same)
signed_begins (Some statement) None = λ same. omega (arith, same)
signed_begins (Some statement) (Some signer) =
    begins_on (signed_line signer statement) [] (one_begins signer statement.number statement.said)

abbrev last_text : Chain → Option ℕ → List ℕ
last_text chain signer = text_of (flat_map (life_lines (entries_of chain.entries)) (entries_of chain.entries)) ++ text_of (signed_lines chain.statement signer)

history_written : (chain : Chain) (signer : Option ℕ)
    → text_of (history_shown chain signer) ≡ codes "serial " ++ (hex_word (serial_told (entries_of chain.entries)) ++ 10 ∷ (text_of (flat_map entry_lines (entries_of chain.entries)) ++ last_text chain signer))
unfolding history_shown
history_written chain signer =
    let log = entries_of chain.entries in
    let word = hex_word (serial_told log) in
    let a = flat_map entry_lines log in
    let b = flat_map (life_lines log) log in
    let c = signed_lines chain.statement signer in
    let first = serial_shown (serial_told log) in
    ap text_of (append_assoc (first ∷ a) b c)
    ∙ ap (λ (t : List ℕ). codes "serial " ++ ((word ++ 10 ∷ []) ++ t)) (text_of-append a (b ++ c) ∙ ap (λ (t : List ℕ). text_of a ++ t) (text_of-append b c))
    ∙ ap (λ (t : List ℕ). codes "serial " ++ t) (append_assoc word (10 ∷ []) (text_of a ++ (text_of b ++ text_of c)))

pub histories_tell : HistoriesTellEntries
histories_tell maker bytes changed one other signer another are also found told same =
    let log = entries_of one.entries in
    let others = entries_of other.entries in
    let ruled : RuledLog log = good_is_ruled maker one.entries found.0.good in
    let also_ruled : RuledLog others = good_is_ruled maker other.entries told.0.good in
    let fits = chain_fits bytes one are found.0.spelled in
    let also_fits = chain_fits changed other also told.0.spelled in
    let born = each_born log ruled fits in
    let also_born = each_born others also_ruled also_fits in
    let text = append_cancel_left (codes "serial ") _ _ (sym (history_written one signer) ∙ same ∙ history_written other another) in
    let serial = bytes_read 10 (serial_told log) (serial_told others) _ _ lf born.1 also_born.1 text in
    entries_read (serial_told log) (number_of []) log others (last_text one signer) (last_text other another) fits also_fits born.0
    (subst (λ (s : List ℕ). EachBorn s others) (sym serial.0) also_born.0)
    (each_numbered [] log ruled) (each_numbered [] others also_ruled)
    (lives_begin log log (text_of (signed_lines one.statement signer)) (signed_begins one.statement signer))
    (lives_begin others others (text_of (signed_lines other.statement another)) (signed_begins other.statement another))
    serial.1
