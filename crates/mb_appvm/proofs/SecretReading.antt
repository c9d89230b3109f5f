-- How far the text of secrets has been read, and what is written of secrets.
use Rattle.std.proofs.Common.{◌≡◌, ◌≢◌, ℕ, ◌+◌, ◌<◌, ◌≤◌, List, [], ◌∷◌, ◌++◌, length, take, map, length-append, refl, sym, ap, subst, ◌∙◌, arith, append_assoc, Bool, true, false, get_or}
use Rattle.std.specs.Prelude.{filter, codes, AllPairs}
use Rattle.std.specs.List.{AllZip, list_any}
use Rattle.std.proofs.lemmas.List.{append-nil, append_cancel_left, take_more, take_all, flat_map_more}
use Rattle.std.proofs.lemmas.List.Elements.{filter-append}
use Rattle.std.proofs.lemmas.List.Folds.{list_any_at, list_any_none}
use Rattle.std.proofs.lemmas.List.Quantifiers.{all_pairs_push}
use Rattle.mb_format.proofs.Fields.{same_bytes-true, same_bytes-refl}
use Rattle.mb_model.specs.declared.region.Secret.{Secret}
use Rattle.mb_model.specs.outside.Texts.{IsHex, line_with_lf}
use Rattle.mb_model.specs.machine.LayerEvents.{has_name}
use Rattle.mb_model.specs.chains.Lines.{HasLines, IsBeginning, FailsAtLine, ReadsLines, TextFailsAtLine, text_of}
use Rattle.mb_model.specs.chains.Script.{is_skipped}
use Rattle.mb_model_lemmas.proofs.ListLemmas.{pairs_before}
use Rattle.mb_model_lemmas.proofs.LineLemmas.{Without, first_same, first_none, HasLines-nil, HasLines-always, IsBeginning-all, bad_after}
use Rattle.mb_model_lemmas.proofs.WordLemmas.{name_spaceless, IsHex-same}
use Rattle.mb_words.specs.Words.{IsSplit, SplitsLine}
use Rattle.mb_words.proofs.NextLines.{shorter, with_line}
use Rattle.mb_appvm.specs.SecretTexts.{SaysKeptSecret, is_said, AreSecrets, HasSecretWords, AddsSecret, secret_line, secrets_text}

-- ---- the words of a line

words_left : (line words name word : List ℕ) → line ≡ codes "secret " ++ words → HasSecretWords line name word → words ≡ name ++ 32 ∷ word
words_left line words name word begins has = append_cancel_left (codes "secret ") words (name ++ 32 ∷ word) (sym begins ∙ has.whole)

pub words_none : (line words name word : List ℕ) → line ≡ codes "secret " ++ words → Without 32 words → HasSecretWords line name word → ⊥
words_none line words name word begins without has = first_none 32 words name word without (words_left line words name word begins has)

pub words_split : (line words first rest name word : List ℕ) → line ≡ codes "secret " ++ words → IsSplit 32 words first rest → HasSecretWords line name word
    → (first ≡ name) × (rest ≡ word)
words_split line words first rest name word begins split has =
    first_same 32 first name rest word split.first (name_spaceless name has.named) (sym split.whole ∙ words_left line words name word begins has)

words_same : (line m n v w : List ℕ) → HasSecretWords line m v → HasSecretWords line n w → (m ≡ n) × (v ≡ w)
words_same line m n v w a b =
    first_same 32 m n v w (name_spaceless m a.named) (name_spaceless n b.named) (words_left line (m ++ 32 ∷ v) n w a.whole b)

says_words : (line : List ℕ) (secret : Secret) (says : SaysKeptSecret line secret) → HasSecretWords line secret.name says.spelled.0
says_words line secret says = record { named = says.named; whole = says.spelled.2 }

says_same : (line : List ℕ) (a b : Secret) → SaysKeptSecret line a → SaysKeptSecret line b → a ≡ b
says_same line a b is_a is_b =
    let words = words_same line a.name b.name is_a.spelled.0 is_b.spelled.0 (says_words line a is_a) (says_words line b is_b) in
    let value = IsHex-same is_a.spelled.0 is_b.spelled.0 a.value b.value words.1 is_a.spelled.1 is_b.spelled.1 in
    ap (λ (n : List ℕ). record { name = n; value = a.value; born = a.born }) words.0
    ∙ ap (λ (v : List ℕ). record { name = b.name; value = v; born = a.born }) value
    ∙ ap (λ (n : ℕ). record { name = b.name; value = b.value; born = n }) (is_a.born ∙ sym is_b.born)

-- a line whose name stands among the secrets before adds none
pub adds_no_name : (before : List Secret) (line name word : List ℕ) → HasSecretWords line name word → list_any (has_name name) before ≡ true
    → (secret : Secret) → AddsSecret before line secret → ⊥
adds_no_name before line name word has named secret adds =
    let same = (words_same line name secret.name word adds.says.spelled.0 has (says_words line secret adds.says)).0 in
    let new : list_any (has_name name) before ≡ false = subst (λ (n : List ℕ). list_any (has_name n) before ≡ false) (sym same) adds.new in
    cc

-- the value of a line that adds a secret is that of its last word
pub adds_value : (before : List Secret) (line name word : List ℕ) → HasSecretWords line name word → (secret : Secret) → AddsSecret before line secret
    → (value : List ℕ) × (IsHex word value × (length value ≤ 128))
adds_value before line name word has secret adds =
    let same = (words_same line name secret.name word adds.says.spelled.0 has (says_words line secret adds.says)).1 in
    (secret.value, (subst (λ (w : List ℕ). IsHex w secret.value) (sym same) adds.says.spelled.1, adds.says.short))

-- ---- reading

-- Some lines have been read, and say these secrets; whatever lines the rest has, the text has those and these.
pub record IsReadTo (text rest : List ℕ) (secrets : List Secret) (number : ℕ) : Type 0 where
  pub before : List (List ℕ)
  pub stands : AreSecrets before secrets
  pub forward : (more : List (List ℕ)) → HasLines rest more → HasLines text (before ++ more)
  pub count : number ≡ length before
  pub less : number + length rest ≤ length text

pub none_read : (text : List ℕ) → IsReadTo text text [] 0
none_read text = record {
  before = [];
  stands = record { said = tt; most = omega arith; once = λ i j d less within. absurd (omega (arith, within)) };
  forward = λ more has. has;
  count = refl;
  less = omega arith;
}

pub all_read : (text rest : List ℕ) (secrets : List Secret) (number : ℕ) → IsReadTo text rest secrets number → rest ≡ [] → ReadsLines AreSecrets text secrets
all_read text rest secrets number is none = record {
  lines = is.before ++ [];
  has = is.forward [] (subst (λ (x : List ℕ). HasLines x []) (sym none) HasLines-nil);
  stands = subst (λ (x : List (List ℕ)). AreSecrets x secrets) (sym (append-nil is.before)) is.stands;
}

one_more : (text rest line remaining : List ℕ) (secrets more_secrets : List Secret) (number : ℕ) (is : IsReadTo text rest secrets number) → SplitsLine rest line remaining → 0 < length rest
    → AreSecrets (is.before ++ line ∷ []) more_secrets → IsReadTo text remaining more_secrets (number + 1)
one_more text rest line remaining secrets more_secrets number is splits some stands = record {
  before = is.before ++ line ∷ [];
  stands = stands;
  forward = λ more has.
      subst (λ (x : List (List ℕ)). HasLines text x) (sym (append_assoc is.before (line ∷ []) more)) (is.forward (line ∷ more) (with_line rest line remaining more splits some has));
  count = omega (arith, is.count, length-append is.before (line ∷ []));
  less = omega (arith, is.less, shorter rest line remaining splits some);
}

one_left : (line : List ℕ) → is_skipped line ≡ true → filter is_said (line ∷ []) ≡ []
one_left line skipped = rw skipped refl

one_kept : (line : List ℕ) → is_skipped line ≡ false → filter is_said (line ∷ []) ≡ line ∷ []
one_kept line said = rw said refl

pub skip_line : (text rest line remaining : List ℕ) (secrets : List Secret) (number : ℕ) → IsReadTo text rest secrets number → SplitsLine rest line remaining → 0 < length rest
    → is_skipped line ≡ true → IsReadTo text remaining secrets (number + 1)
skip_line text rest line remaining secrets number is splits some skipped =
    let same = filter-append is_said is.before (line ∷ []) ∙ ap (λ (x : List (List ℕ)). filter is_said is.before ++ x) (one_left line skipped) ∙ append-nil (filter is_said is.before) in
    one_more text rest line remaining secrets secrets number is splits some
    (record { said = subst (λ (x : List (List ℕ)). AllZip SaysKeptSecret x secrets) (sym same) is.stands.said; most = is.stands.most; once = is.stands.once })

push_said : (lines : List (List ℕ)) (secrets : List Secret) (line : List ℕ) (s : Secret) → AllZip SaysKeptSecret lines secrets → SaysKeptSecret line s → AllZip SaysKeptSecret (lines ++ line ∷ []) (secrets ++ s ∷ [])
push_said [] [] line s said says = (says, tt)
push_said [] (x ∷ secrets) line s said says = absurd said
push_said (y ∷ lines) [] line s said says = absurd said
push_said (y ∷ lines) (x ∷ secrets) line s said says = (said.0, push_said lines secrets line s said.1 says)

push_once : (secrets : List Secret) (s : Secret) → AllPairs (λ a b. a.name ≢ b.name) secrets → list_any (has_name s.name) secrets ≡ false → AllPairs (λ a b. a.name ≢ b.name) (secrets ++ s ∷ [])
push_once secrets s once new =
    all_pairs_push (λ (a b : Secret). a.name ≢ b.name) secrets s once
    (λ k d within same.
    let found : has_name s.name (get_or secrets k d) ≡ true = rw same (same_bytes-refl s.name) in
    let any = list_any_at (has_name s.name) secrets k d within found in
    cc)

pub say_line : (text rest line remaining : List ℕ) (secrets more_secrets : List Secret) (s : Secret) (number : ℕ) → IsReadTo text rest secrets number → SplitsLine rest line remaining
    → 0 < length rest → is_skipped line ≡ false → AddsSecret secrets line s → more_secrets ≡ secrets ++ s ∷ [] → IsReadTo text remaining more_secrets (number + 1)
say_line text rest line remaining secrets more_secrets s number is splits some said adds pushed =
    let same = filter-append is_said is.before (line ∷ []) ∙ ap (λ (x : List (List ℕ)). filter is_said is.before ++ x) (one_kept line said) in
    let room = adds.room in
    subst (λ (x : List Secret). IsReadTo text remaining x (number + 1)) (sym pushed)
    (one_more text rest line remaining secrets (secrets ++ s ∷ []) number is splits some
    (record {
      said = subst (λ (x : List (List ℕ)). AllZip SaysKeptSecret x (secrets ++ s ∷ [])) (sym same) (push_said (filter is_said is.before) secrets line s is.stands.said adds.says);
      most = omega (arith, room, length-append secrets (s ∷ []));
      once = push_once secrets s is.stands.once adds.new;
    }))

-- ---- the first line that is wrong

-- secrets that lines say, where one of the lines is in the middle: those of the lines before it, and its own
record SplitsSecrets (before : List (List ℕ)) (line : List ℕ) (value : List Secret) : Type 0 where
  front : List Secret
  one : Secret
  back : List Secret
  whole : value ≡ front ++ one ∷ back
  said : AllZip SaysKeptSecret before front
  says : SaysKeptSecret line one

middle_says : (before later : List (List ℕ)) (line : List ℕ) (value : List Secret) → AllZip SaysKeptSecret (before ++ line ∷ later) value → SplitsSecrets before line value
middle_says [] later line [] said = absurd said
middle_says [] later line (s ∷ value) said = record { front = []; one = s; back = value; whole = refl; said = tt; says = said.0 }
middle_says (x ∷ before) later line [] said = absurd said
middle_says (x ∷ before) later line (s ∷ value) said =
    let rest = middle_says before later line value said.1 in
    record { front = s ∷ rest.front; one = rest.one; back = rest.back; whole = ap (λ (xs : List Secret). s ∷ xs) rest.whole; said = (said.0, rest.said); says = rest.says }

zip_same : (lines : List (List ℕ)) (a b : List Secret) → AllZip SaysKeptSecret lines a → AllZip SaysKeptSecret lines b → a ≡ b
zip_same [] [] [] ha hb = refl
zip_same [] [] (y ∷ b) ha hb = absurd hb
zip_same [] (x ∷ a) b ha hb = absurd ha
zip_same (line ∷ lines) [] b ha hb = absurd ha
zip_same (line ∷ lines) (x ∷ a) [] ha hb = absurd hb
zip_same (line ∷ lines) (x ∷ a) (y ∷ b) ha hb =
    let here = says_same line x y ha.0 hb.0 in
    let rest = zip_same lines a b ha.1 hb.1 in
    cc

-- lines say at most one list of secrets
pub AreSecrets-same : (lines : List (List ℕ)) (a b : List Secret) → AreSecrets lines a → AreSecrets lines b → a ≡ b
AreSecrets-same lines a b ha hb = zip_same (filter is_said lines) a b ha.said hb.said

apart_false : (name : List ℕ) (s : Secret) → s.name ≢ name → has_name name s ≡ false
apart_false name s apart = by (has_name name s) refl
  where
    by : (b : Bool) → has_name name s ≡ b → b ≡ false
    by true e = absurd (apart (same_bytes-true s.name name e))
    by false e = refl

none_begins : (before : List (List ℕ)) (line : List ℕ) (secrets : List Secret) → AreSecrets before secrets → is_skipped line ≡ false
    → ((s : Secret) → AddsSecret secrets line s → ⊥) → IsBeginning AreSecrets (before ++ line ∷ []) → ⊥
none_begins before line secrets stands said wrong begins =
    let kept = filter-append is_said (before ++ line ∷ []) begins.more
    ∙ ap (λ (x : List (List ℕ)). x ++ filter is_said begins.more) (filter-append is_said before (line ∷ []) ∙ ap (λ (x : List (List ℕ)). filter is_said before ++ x) (one_kept line said))
    ∙ append_assoc (filter is_said before) (line ∷ []) (filter is_said begins.more) in
    let split = middle_says (filter is_said before) (filter is_said begins.more) line begins.value (subst (λ (x : List (List ℕ)). AllZip SaysKeptSecret x begins.value) kept begins.stands.said) in
    let same : split.front ≡ secrets = zip_same (filter is_said before) split.front secrets split.said stands.said in
    let once = subst (AllPairs (λ (a b : Secret). a.name ≢ b.name)) split.whole begins.stands.once in
    let apart = pairs_before (λ (a b : Secret). a.name ≢ b.name) split.front split.one split.back once in
    let most = begins.stands.most in
    wrong split.one (record {
      says = split.says;
      room = omega (arith, most, ap length split.whole, length-append split.front (split.one ∷ split.back), ap length same);
      new = subst (λ (x : List Secret). list_any (has_name split.one.name) x ≡ false) same
          (list_any_none (has_name split.one.name) split.front (λ k d within. apart_false split.one.name (get_or split.front k d) (apart k d within)));
    })

pub wrong_line : (text rest line remaining : List ℕ) (secrets : List Secret) (number : ℕ) → IsReadTo text rest secrets number → SplitsLine rest line remaining → 0 < length rest
    → is_skipped line ≡ false → ((s : Secret) → AddsSecret secrets line s → ⊥) → TextFailsAtLine AreSecrets text (number + 1)
wrong_line text rest line remaining secrets number is splits some said wrong =
    let later = HasLines-always remaining in
    record {
      lines = is.before ++ line ∷ later.0;
      has = is.forward (line ∷ later.0) (with_line rest line remaining later.0 splits some later.1);
      fails = subst (λ (n : ℕ). FailsAtLine AreSecrets (is.before ++ line ∷ later.0) (n + 1)) (sym is.count)
          (bad_after AreSecrets is.before line later.0 (IsBeginning-all AreSecrets is.before secrets is.stands) (none_begins is.before line secrets is.stands said wrong));
    }

-- ---- writing

map_push : {A B : Type 0} (f : A → B) (xs : List A) (x : A) → map f (xs ++ x ∷ []) ≡ map f xs ++ f x ∷ []
map_push f [] x = refl
map_push {A} {B} f (y ∷ xs) x = ap (λ (l : List B). f y ∷ l) (map_push f xs x)

text_push : (secrets : List Secret) (s : Secret) → secrets_text (secrets ++ s ∷ []) ≡ secrets_text secrets ++ line_with_lf (secret_line s)
text_push secrets s = ap text_of (map_push secret_line secrets s) ∙ sym (flat_map_more line_with_lf [] (map secret_line secrets) (secret_line s))

pub one_written : (secrets : List Secret) (at : ℕ) (s : Secret) (text more : List ℕ) → at < length secrets → s ≡ get_or secrets at s → text ≡ secrets_text (take at secrets)
    → more ≡ text ++ line_with_lf (secret_line s) → more ≡ secrets_text (take (at + 1) secrets)
one_written secrets at s text more within is written puts =
    puts ∙ ap (λ (x : List ℕ). x ++ line_with_lf (secret_line s)) written ∙ sym (text_push (take at secrets) s)
    ∙ ap (λ (x : Secret). secrets_text (take at secrets ++ x ∷ [])) is ∙ ap secrets_text (sym (take_more secrets at s within))

pub all_written : (secrets : List Secret) (at : ℕ) (text : List ℕ) → length secrets ≤ at → text ≡ secrets_text (take at secrets) → text ≡ secrets_text secrets
all_written secrets at text all written = written ∙ ap secrets_text (take_all at secrets all)
