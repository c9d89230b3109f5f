-- Lines of each kind, without their first word, and what their events say of them.
use Rattle.std.proofs.Common.{◌≡◌, ◌≢◌, ℕ, ◌≤◌, inl, inr, List, [], ◌∷◌, ◌++◌, refl, sym, ap, subst, ◌∙◌, arith}
use Rattle.std.specs.Prelude.{codes, IfSome, Option}
use Rattle.std.specs.Fmt.{decimal}
use Rattle.std.proofs.lemmas.List.{append_cancel_left}
use Rattle.mb_model.specs.declared.event.Event.{Event}
use Rattle.mb_model.specs.declared.event.Event.TheVariants as event
use Rattle.mb_model.specs.declared.event.Tear.{Tear}
use Rattle.mb_model.specs.outside.Texts.{IsHex}
use Rattle.mb_model.specs.chains.Lines.{spaced_words, number_limit}
use Rattle.mb_model.specs.chains.Script.{called_word, tear_of, IsName, FitsMessage, FitsInput, IsCutLine, SaysEvent}
use Rattle.mb_model_lemmas.proofs.LineLemmas.{Without, first_same, first_none}
use Rattle.mb_model_lemmas.proofs.EventLemmas.{letters, letters_of, says_letters}
use Rattle.mb_script.specs.Reading.{HasNumberFirst, HasRegionFirst, SaysSecret, SaysTail, kept_some, none, IsFill}
use Rattle.mb_script.proofs.Parts.{Without-from_test}

-- a line that begins as lines of another kind do
other_kind : (line : List ℕ) (e : Event) → (letters line ≡ letters_of e → ⊥) → SaysEvent line e → ⊥
other_kind line e apart says = apart (says_letters line e says)

-- ---- command

pub command_says : (rest : List ℕ) (e : Event) → SaysEvent (codes "command " ++ rest) e → (bytes : List ℕ) × IsHex rest bytes
command_says rest (event.Order text draw) says =
    let word = append_cancel_left (codes "command ") rest says.0.0 says.0.2 in
    (text, subst (λ (x : List ℕ). IsHex x text) (sym word) says.0.1)
command_says rest e says = absurd (other_kind (codes "command " ++ rest) e (λ same. omega (arith, same)) says)

-- ---- get and drop

pub get_says : (rest : List ℕ) (e : Event) → SaysEvent (codes "get " ++ rest) e → (secret : ℕ × List ℕ) × SaysSecret rest secret.0 secret.1
get_says rest (event.Get region name) says =
    ((region, name), record { upper = says.0; named = says.1; whole = append_cancel_left (codes "get ") rest (decimal region ++ 32 ∷ name) says.2 })
get_says rest e says = absurd (other_kind (codes "get " ++ rest) e (λ same. omega (arith, same)) says)

pub drop_says : (rest : List ℕ) (e : Event) → SaysEvent (codes "drop " ++ rest) e → (secret : ℕ × List ℕ) × SaysSecret rest secret.0 secret.1
drop_says rest (event.Drop region name) says =
    ((region, name), record { upper = says.0; named = says.1; whole = append_cancel_left (codes "drop ") rest (decimal region ++ 32 ∷ name) says.2 })
drop_says rest e says = absurd (other_kind (codes "drop " ++ rest) e (λ same. omega (arith, same)) says)

-- ---- put

pub record IsPut (rest : List ℕ) : Type 0 where
  pub region : ℕ
  pub name : List ℕ
  pub word : List ℕ
  pub value : List ℕ
  pub first : HasRegionFirst rest region (name ++ 32 ∷ word)
  pub named : IsName name
  pub short : IsHex word value × FitsMessage value

pub put_says : (rest : List ℕ) (e : Event) → SaysEvent (codes "put " ++ rest) e → IsPut rest
put_says rest (event.Put region name value) says = record {
  region = region;
  name = name;
  word = says.3.0;
  value = value;
  first = record { upper = says.0; whole = append_cancel_left (codes "put ") rest (decimal region ++ 32 ∷ (name ++ 32 ∷ says.3.0)) says.3.2 };
  named = says.1;
  short = (says.3.1, says.2);
}
put_says rest e says = absurd (other_kind (codes "put " ++ rest) e (λ same. omega (arith, same)) says)

-- ---- sign

pub record IsSign (rest : List ℕ) : Type 0 where
  pub region : ℕ
  pub key : ℕ
  pub word : List ℕ
  pub message : List ℕ
  pub first : HasRegionFirst rest region (decimal key ++ 32 ∷ word)
  pub within : key ≤ number_limit
  pub short : IsHex word message × FitsMessage message

pub sign_says : (rest : List ℕ) (e : Event) → SaysEvent (codes "sign " ++ rest) e → IsSign rest
sign_says rest (event.Sign region key message) says = record {
  region = region;
  key = key;
  word = says.3.0;
  message = message;
  first = record { upper = says.0; whole = append_cancel_left (codes "sign ") rest (decimal region ++ 32 ∷ (decimal key ++ 32 ∷ says.3.0)) says.3.2 };
  within = says.1;
  short = (says.3.1, says.2);
}
sign_says rest e says = absurd (other_kind (codes "sign " ++ rest) e (λ same. omega (arith, same)) says)

-- ---- call

pub record IsCall (rest : List ℕ) : Type 0 where
  pub region : ℕ
  pub key : Option ℕ
  pub word : List ℕ
  pub input : List ℕ
  pub first : HasRegionFirst rest region (called_word key ++ 32 ∷ word)
  pub within : IfSome key (λ number. number ≤ number_limit)
  pub bounded : IsHex word input × FitsInput input

pub call_says : (rest : List ℕ) (e : Event) → SaysEvent (codes "call " ++ rest) e → IsCall rest
call_says rest (event.Call region key input) says = record {
  region = region;
  key = key;
  word = says.3.0;
  input = input;
  first = record { upper = says.0; whole = append_cancel_left (codes "call ") rest (decimal region ++ 32 ∷ (called_word key ++ 32 ∷ says.3.0)) says.3.2 };
  within = says.1;
  bounded = (says.3.1, says.2);
}
call_says rest e says = absurd (other_kind (codes "call " ++ rest) e (λ same. omega (arith, same)) says)

-- ---- cut

pub record IsCutRest (rest : List ℕ) : Type 0 where
  pub count : ℕ
  pub keep : ℕ
  pub tail : List ℕ
  pub word : List ℕ
  pub fill : List ℕ
  pub first : HasNumberFirst 100000 rest count tail
  pub least : 1 ≤ count
  pub says : SaysTail tail keep word
  pub fills : IsFill word fill

cut_rest : (rest : List ℕ) (count : ℕ) (tear : Tear) (says : IsCutLine (codes "cut " ++ rest) count tear)
    → (tail : List ℕ) × (rest ≡ decimal count ++ 32 ∷ tail) × SaysTail tail tear.keep says.fill_word
cut_rest rest count tear says =
    elim says.kept [
      | inl words ↦
          let tail = codes "keep " ++ decimal tear.keep ++ 32 ∷ (codes "fill " ++ says.fill_word) in
          let line = subst (λ (x : List (List ℕ)). codes "cut " ++ rest ≡ spaced_words (codes "cut" ∷ decimal count ∷ x ++ codes "fill" ∷ says.fill_word ∷ [])) words says.spelled in
          (tail, append_cancel_left (codes "cut ") rest (decimal count ++ 32 ∷ tail) line, kept_some says.allowed.torn.keep refl)
      | inr left_out ↦
          let tail = codes "fill " ++ says.fill_word in
          let line = subst (λ (x : List (List ℕ)). codes "cut " ++ rest ≡ spaced_words (codes "cut" ∷ decimal count ∷ x ++ codes "fill" ∷ says.fill_word ∷ [])) left_out.0 says.spelled in
          (tail, append_cancel_left (codes "cut ") rest (decimal count ++ 32 ∷ tail) line, none left_out.1 refl)
    ]

pub cut_says : (rest : List ℕ) (e : Event) → SaysEvent (codes "cut " ++ rest) e → IsCutRest rest
cut_says rest (event.Cut count tear) says =
    let parts = cut_rest rest count tear says in
    record {
      count = count;
      keep = tear.keep;
      tail = parts.0;
      word = says.fill_word;
      fill = says.fill;
      first = record { within = says.allowed.most; whole = parts.1 };
      least = says.allowed.least;
      says = parts.2;
      fills = record { spelled = says.filled; some = says.allowed.torn.some; most = says.allowed.torn.most };
    }
cut_says rest e says = absurd (other_kind (codes "cut " ++ rest) e (λ same. omega (arith, same)) says)

cut_line : (rest tail word fill : List ℕ) (count keep : ℕ) (tear : Tear) → HasNumberFirst 100000 rest count tail → 1 ≤ count → SaysTail tail keep word → IsFill word fill
    → tear ≡ tear_of keep fill → tear.keep ≡ keep → IsCutLine (codes "cut " ++ rest) count tear
cut_line rest tail word fill count keep tear first least (kept_some most whole) fills made same = record {
  kept_words = codes "keep" ∷ decimal keep ∷ [];
  fill_word = word;
  fill = fill;
  kept = inl (ap (λ (x : ℕ). codes "keep" ∷ decimal x ∷ []) (sym same));
  filled = fills.spelled;
  allowed = record {
    least = least;
    most = first.within;
    torn = record { keep = omega (arith, most, same); some = fills.some; most = fills.most; made = made ∙ ap (λ (x : ℕ). tear_of x fill) (sym same) };
  };
  spelled = ap (λ (x : List ℕ). codes "cut " ++ x) (first.whole ∙ ap (λ (x : List ℕ). decimal count ++ 32 ∷ x) whole);
}
cut_line rest tail word fill count keep tear first least (none zero whole) fills made same = record {
  kept_words = [];
  fill_word = word;
  fill = fill;
  kept = inr (refl, same ∙ zero);
  filled = fills.spelled;
  allowed = record {
    least = least;
    most = first.within;
    torn = record { keep = omega (arith, zero, same); some = fills.some; most = fills.most; made = made ∙ ap (λ (x : ℕ). tear_of x fill) (sym same) };
  };
  spelled = ap (λ (x : List ℕ). codes "cut " ++ x) (first.whole ∙ ap (λ (x : List ℕ). decimal count ++ 32 ∷ x) whole);
}

pub cut_makes : (rest tail word fill : List ℕ) (count keep : ℕ) (tear : Tear) → HasNumberFirst 100000 rest count tail → 1 ≤ count → SaysTail tail keep word → IsFill word fill
    → tear ≡ tear_of keep fill → SaysEvent (codes "cut " ++ rest) (event.Cut count tear)
cut_makes rest tail word fill count keep tear first least says fills made =
    cut_line rest tail word fill count keep tear first least says fills made (ap (λ (t : Tear). t.keep) made)

-- ---- lines of one word, and of more

pub lone_none : (word : List ℕ) → Without 32 word → (word ≢ codes "boot") → (word ≢ codes "off") → (word ≢ codes "tamper") → (word ≢ codes "status") → (word ≢ codes "go")
    → (e : Event) → SaysEvent word e → ⊥
lone_none word plain boot off tamper status go event.Boot says = boot says
lone_none word plain boot off tamper status go event.Off says = off says
lone_none word plain boot off tamper status go event.Tamper says = tamper says
lone_none word plain boot off tamper status go event.Status says = status says
lone_none word plain boot off tamper status go event.Go says = go says
lone_none word plain boot off tamper status go (event.Cut count tear) says = first_none 32 word (codes "cut") _ plain says.spelled
lone_none word plain boot off tamper status go (event.Order text draw) says = first_none 32 word (codes "command") _ plain says.0.2
lone_none word plain boot off tamper status go (event.Put region name value) says = first_none 32 word (codes "put") _ plain says.3.2
lone_none word plain boot off tamper status go (event.Get region name) says = first_none 32 word (codes "get") _ plain says.2
lone_none word plain boot off tamper status go (event.Drop region name) says = first_none 32 word (codes "drop") _ plain says.2
lone_none word plain boot off tamper status go (event.Sign region key message) says = first_none 32 word (codes "sign") _ plain says.3.2
lone_none word plain boot off tamper status go (event.Call region key input) says = first_none 32 word (codes "call") _ plain says.3.2

-- the first word of a line is that of its kind
kind_word : (word rest kind remaining : List ℕ) → Without 32 word → Without 32 kind → (word ≢ kind) → word ++ 32 ∷ rest ≡ kind ++ 32 ∷ remaining → ⊥
kind_word word rest kind remaining plain kind_plain apart e = apart (first_same 32 word kind rest remaining plain kind_plain e).0

pub words_none : (word rest : List ℕ) → Without 32 word → (word ≢ codes "cut") → (word ≢ codes "command") → (word ≢ codes "put") → (word ≢ codes "get") → (word ≢ codes "drop") → (word ≢ codes "sign") → (word ≢ codes "call")
    → (e : Event) → SaysEvent (word ++ 32 ∷ rest) e → ⊥
words_none word rest plain cut command put get drop sign call event.Boot says = first_none 32 (codes "boot") word rest (Without-from_test 32 (codes "boot") refl) (sym says)
words_none word rest plain cut command put get drop sign call event.Off says = first_none 32 (codes "off") word rest (Without-from_test 32 (codes "off") refl) (sym says)
words_none word rest plain cut command put get drop sign call event.Tamper says = first_none 32 (codes "tamper") word rest (Without-from_test 32 (codes "tamper") refl) (sym says)
words_none word rest plain cut command put get drop sign call event.Status says = first_none 32 (codes "status") word rest (Without-from_test 32 (codes "status") refl) (sym says)
words_none word rest plain cut command put get drop sign call event.Go says = first_none 32 (codes "go") word rest (Without-from_test 32 (codes "go") refl) (sym says)
words_none word rest plain cut command put get drop sign call (event.Cut count tear) says =
    kind_word word rest (codes "cut") _ plain (Without-from_test 32 (codes "cut") refl) cut says.spelled
words_none word rest plain cut command put get drop sign call (event.Order text draw) says =
    kind_word word rest (codes "command") _ plain (Without-from_test 32 (codes "command") refl) command says.0.2
words_none word rest plain cut command put get drop sign call (event.Put region name value) says =
    kind_word word rest (codes "put") _ plain (Without-from_test 32 (codes "put") refl) put says.3.2
words_none word rest plain cut command put get drop sign call (event.Get region name) says =
    kind_word word rest (codes "get") _ plain (Without-from_test 32 (codes "get") refl) get says.2
words_none word rest plain cut command put get drop sign call (event.Drop region name) says =
    kind_word word rest (codes "drop") _ plain (Without-from_test 32 (codes "drop") refl) drop says.2
words_none word rest plain cut command put get drop sign call (event.Sign region key message) says =
    kind_word word rest (codes "sign") _ plain (Without-from_test 32 (codes "sign") refl) sign says.3.2
words_none word rest plain cut command put get drop sign call (event.Call region key input) says =
    kind_word word rest (codes "call") _ plain (Without-from_test 32 (codes "call") refl) call says.3.2
