-- The examples of texts, computed.
use Rattle.mb_model.specs.owners.Layers.{equal_trusts}
use Rattle.std.proofs.Common.{◌≡◌, ℕ, ◌≤◌, inl, inr, List, [], ◌∷◌, ◌++◌, length, replicate, refl, sym, ap, ◌∙◌, arith, true, Bool, not, ◌&&◌, eq-eqb, lit≤}
use Rattle.std.specs.Prelude.{All, codes, ◌==◌, filter, None, Ok, Some}
use Rattle.std.specs.List.{AllZip}
use Rattle.std.specs.Fmt.{digits}
use Rattle.std.proofs.lemmas.Bool.{and_parts}
use Rattle.std.proofs.lemmas.List.Elements.{All-nil, All-cons}
use Rattle.hex.specs.Hex.{encode_with, decode_pairs, decode_of}
use Rattle.mb_model.specs.declared.event.Event.{Event}
use Rattle.mb_model.specs.declared.event.Event.TheVariants as event
use Rattle.mb_model.specs.declared.key.Trust.TheVariants.{Never}
use Rattle.mb_model.specs.declared.order.Act.{Act}
use Rattle.mb_model.specs.declared.order.Act.TheVariants as act
use Rattle.mb_model.specs.declared.order.Order.{Order}
use Rattle.mb_model.specs.outside.Texts.{IsHex}
use Rattle.mb_model.specs.chains.Lines.{IsLine, IsBeginning, ends_early, ReadsLines, TextFailsAtLine}
use Rattle.mb_model.specs.chains.Script.{IsName, SaysEvent, is_skipped, IsScript, with_before, commands_in}
use Rattle.mb_model.specs.chains.Script.{drawn_events}
use Rattle.mb_model.specs.chains.Drafts.{SayAct, AreLoadLines, IsDraft}
use Rattle.mb_model.specs.chains.Listing.{summary}
use Rattle.mb_model_examples.specs.TextExamples.{LineExamples, ScriptExamples, script_text, script_events, DrawExamples, ReplyExamples, DraftExamples, order_of_code, OrderLineExamples, ListingExamples}
use Rattle.mb_model_lemmas.proofs.OrderLineLemmas as lemmas
use Rattle.mb_model_lemmas.proofs.DraftLemmas.{surrender_draft}
use Rattle.mb_model.specs.chains.OrderLines.{IsOrderLine}
use Rattle.mb_model_lemmas.specs.SampleOrder.{surrender, surrender_line}
use Rattle.mb_model_lemmas.proofs.LineLemmas.{cons_same, cons_none, isnt, HasLines-nil, bad_after}
use Rattle.mb_model_lemmas.proofs.EventLemmas.{letters, letters_of, says_letters}
use Rattle.mb_model_lemmas.proofs.DraftLemmas.{letters_at, targets_same, act_letters, act_begins, head_letters, head}

-- ---- lines

abbrev line_test : List ℕ → Bool
line_test [] = true
line_test (byte ∷ bytes) = not (byte == 10) && line_test bytes

IsLine-from_test : (bytes : List ℕ) → line_test bytes ≡ true → IsLine bytes
IsLine-from_test [] h = All-nil (isnt 10)
IsLine-from_test (byte ∷ bytes) h =
    let parts = and_parts (not (byte == 10)) (line_test bytes) h in
    let here = parts.0 in
    All-cons (isnt 10) byte bytes (λ lf. let same : (byte == 10) ≡ true = eq-eqb byte 10 lf in cc) (IsLine-from_test bytes parts.1)

abbrev lines_test : List (List ℕ) → Bool
lines_test [] = true
lines_test (line ∷ lines) = line_test line && lines_test lines

pub lines_plain : (lines : List (List ℕ)) → lines_test lines ≡ true → All IsLine lines
lines_plain [] h = All-nil IsLine
lines_plain (line ∷ lines) h =
    let parts = and_parts (line_test line) (lines_test lines) h in
    All-cons IsLine line lines (IsLine-from_test line parts.0) (lines_plain lines parts.1)

pub lines : LineExamples
lines = record {
  empty = HasLines-nil;
  one = record { plain = lines_plain (codes "a" ∷ []) refl; whole = inl refl };
  two = record { plain = lines_plain (codes "a" ∷ [] ∷ []) refl; whole = inl refl };
  lacking = record {
    plain = lines_plain (codes "a" ∷ codes "b" ∷ []) refl;
    whole = inr (record { before = codes "a" ∷ []; last = codes "b"; split = refl; filled = λ none. cons_none 98 [] (sym none); whole = refl });
  };
}

-- ---- scripts

abbrev script_lines : List (List ℕ)
script_lines =
    codes "boot" ∷ codes "# a secret, and a cut" ∷ codes "put 2 pin 31323334" ∷ [] ∷ codes "cut 3 keep 5 fill fF"
    ∷ codes "cut 3 fill 00" ∷ codes "command -" ∷ codes "sign 3 1 68656c6c6f" ∷ codes "call 2 1 00ff" ∷ codes "call 3 - -" ∷ []

abbrev is_printed : ℕ → Type 0
is_printed byte = (0x21 ≤ byte) × (byte ≤ 0x7E)

pin : IsName (codes "pin")
pin = record {
  some = lit≤ tt;
  most = lit≤ tt;
  printed =
      All-cons is_printed 112 (codes "in") (lit≤ tt, lit≤ tt)
      (All-cons is_printed 105 (codes "n") (lit≤ tt, lit≤ tt) (All-cons is_printed 110 [] (lit≤ tt, lit≤ tt) (All-nil is_printed)));
}

-- a word of digits
hex : (word : List ℕ) (byte : ℕ) (rest bytes : List ℕ) → word ≡ byte ∷ rest → decode_of word ≡ Ok bytes → IsHex word bytes
hex word byte rest bytes some digits = inr ((λ none. cons_none byte rest (sym none ∙ some)), digits)

put_said : SaysEvent (codes "put 2 pin 31323334") (event.Put 2 (codes "pin") (codes "1234"))
unfolding digits decode_pairs
put_said = (refl, pin, lit≤ tt, (codes "31323334", hex (codes "31323334") 51 (codes "1323334") (codes "1234") refl refl, refl))

kept_said : SaysEvent (codes "cut 3 keep 5 fill fF") (event.Cut 3 (record { keep = 5; fill = 255 ∷ replicate 15 0; fill_length = 1 }))
unfolding digits decode_pairs
kept_said = record {
  kept_words = codes "keep" ∷ codes "5" ∷ [];
  fill_word = codes "fF";
  fill = 255 ∷ [];
  kept = inl refl;
  filled = hex (codes "fF") 102 (codes "F") (255 ∷ []) refl refl;
  allowed = record { least = lit≤ tt; most = lit≤ tt; torn = record { keep = lit≤ tt; some = lit≤ tt; most = lit≤ tt; made = refl } };
  spelled = refl;
}

cut_said : SaysEvent (codes "cut 3 fill 00") (event.Cut 3 (record { keep = 0; fill = replicate 16 0; fill_length = 1 }))
unfolding digits decode_pairs
cut_said = record {
  kept_words = [];
  fill_word = codes "00";
  fill = 0 ∷ [];
  kept = inr (refl, refl);
  filled = hex (codes "00") 48 (codes "0") (0 ∷ []) refl refl;
  allowed = record { least = lit≤ tt; most = lit≤ tt; torn = record { keep = lit≤ tt; some = lit≤ tt; most = lit≤ tt; made = refl } };
  spelled = refl;
}

command_said : SaysEvent (codes "command -") (event.Order [] (replicate 32 0))
command_said = ((codes "-", inl (refl, refl), refl), refl)

sign_said : SaysEvent (codes "sign 3 1 68656c6c6f") (event.Sign 3 1 (codes "hello"))
unfolding digits decode_pairs
sign_said = (refl, lit≤ tt, lit≤ tt, (codes "68656c6c6f", hex (codes "68656c6c6f") 54 (codes "8656c6c6f") (codes "hello") refl refl, refl))

call_said : SaysEvent (codes "call 2 1 00ff") (event.Call 2 (Some 1) (0 ∷ 255 ∷ []))
unfolding digits decode_pairs
call_said = (refl, lit≤ tt, lit≤ tt, (codes "00ff", hex (codes "00ff") 48 (codes "0ff") (0 ∷ 255 ∷ []) refl refl, refl))

empty_call_said : SaysEvent (codes "call 3 - -") (event.Call 3 None [])
unfolding digits
empty_call_said = (refl, tt, lit≤ tt, (codes "-", inl (refl, refl), refl))

script : ReadsLines IsScript script_text script_events
script = record {
  lines = script_lines;
  has = record { plain = lines_plain script_lines refl; whole = inl refl };
  stands = record { said = (refl, (put_said, (kept_said, (cut_said, (command_said, (sign_said, (call_said, (empty_call_said, tt)))))))); most = lit≤ tt };
}

-- no event has these letters
no_jump : (e : Event) → letters (codes "jump") ≡ letters_of e → ⊥
no_jump event.Boot e = omega (arith, e)
no_jump event.Off e = omega (arith, e)
no_jump event.Tamper e = omega (arith, e)
no_jump event.Status e = omega (arith, e)
no_jump event.Go e = omega (arith, e)
no_jump (event.Cut count tear) e = omega (arith, e)
no_jump (event.Order text draw) e = omega (arith, e)
no_jump (event.Put region name value) e = omega (arith, e)
no_jump (event.Get region name) e = omega (arith, e)
no_jump (event.Drop region name) e = omega (arith, e)
no_jump (event.Sign region key message) e = omega (arith, e)
no_jump (event.Call region key input) e = omega (arith, e)

second_says : (first second : List ℕ) (later : List (List ℕ)) (events : List Event) → AllZip SaysEvent (first ∷ second ∷ later) events
    → (e : Event) × SaysEvent second e
second_says first second later [] says = absurd says
second_says first second later (a ∷ []) says = absurd says.1
second_says first second later (a ∷ b ∷ events) says = (b, says.1.0)

jump_begins : IsBeginning IsScript (codes "boot" ∷ [] ∷ codes "jump" ∷ []) → ⊥
jump_begins begins =
    let said = second_says (codes "boot") (codes "jump") (filter (λ line. not (is_skipped line)) begins.more) begins.value begins.stands.said in
    no_jump said.0 (says_letters (codes "jump") said.0 said.1)

no_script : TextFailsAtLine IsScript (codes "boot" ++ 10 ∷ 10 ∷ codes "jump" ++ 10 ∷ []) 3
no_script = record {
  lines = codes "boot" ∷ [] ∷ codes "jump" ∷ [];
  has = record { plain = lines_plain (codes "boot" ∷ [] ∷ codes "jump" ∷ []) refl; whole = inl refl };
  fails = bad_after IsScript (codes "boot" ∷ [] ∷ []) (codes "jump") []
      (record { more = []; value = event.Boot ∷ []; stands = record { said = (refl, tt); most = lit≤ tt } }) jump_begins;
}

pub scripts : ScriptExamples
scripts = record {
  script = script;
  no_script = no_script;
  empty = record { lines = []; has = HasLines-nil; stands = record { said = tt; most = lit≤ tt } };
}

pub draws : DrawExamples
unfolding with_before commands_in drawn_events
draws = record { drawn = λ text draw. refl }

-- ---- replies

pub replies : ReplyExamples
unfolding digits encode_with
replies = record {
  at = refl;
  done = refl;
  value = refl;
  empty_value = refl;
  signed = refl;
  status = refl;
  called = refl;
  called_empty = refl;
  code = refl;
  run = refl;
  text = refl;
  log_full = refl;
  no_memory = refl;
}

-- ---- drafts

load_lines : AreLoadLines (codes "version 258" ∷ codes "trust never" ∷ codes "code 616263" ∷ []) (record { version = 258; trust = equal_trusts Never; code = codes "abc" })
unfolding digits decode_pairs
load_lines = record {
  code_line = codes "code 616263";
  coded = (codes "616263", hex (codes "616263") 54 (codes "16263") (codes "abc") refl refl, refl);
  code_fits = lit≤ tt;
  version_fits = lit≤ tt;
  line_of_trusts = codes "trust never";
  trusted = inr (refl, refl);
  spelled = refl;
}

load_draft : IsDraft (codes "order load 3" ∷ codes "version 258" ∷ codes "trust never" ∷ codes "code 616263" ∷ []) order_of_code
unfolding digits
load_draft = record {
  target_lines = [];
  act_lines = codes "version 258" ∷ codes "trust never" ∷ codes "code 616263" ∷ [];
  spelled = refl;
  named = (lit≤ tt, lit≤ tt);
  targeted = tt;
  few = lit≤ tt;
  says_act = load_lines;
  unsigned = refl;
  alone = refl;
}

-- two lines are no lines of a load
two_lines : (first second : List ℕ) (lines : List (List ℕ)) (a : Act) → lines ≡ first ∷ second ∷ [] → letters_at 6 (codes "order load 3") ≡ act_letters a
    → SayAct lines a → ⊥
two_lines first second lines (act.Establish owner trust) e kind says = omega (arith, kind)
two_lines first second lines act.Surrender e kind says = omega (arith, kind)
two_lines first second lines (act.Load payload) e kind says = omega (arith, ap length (sym e ∙ says.spelled))
two_lines first second lines (act.Emergency payload) e kind says = omega (arith, kind)
two_lines first second lines (act.NewKey kind_of_key) e kind says = omega (arith, kind)

pub half_load : (value : Order) → IsDraft (codes "order load 3" ∷ codes "version 258" ∷ codes "trust never" ∷ []) value → ⊥
half_load value is =
    let parts = cons_same (codes "order load 3") (head value.act value.layer) (codes "version 258" ∷ codes "trust never" ∷ []) (is.target_lines ++ is.act_lines) is.spelled in
    let kind = ap (letters_at 6) parts.0 ∙ head_letters value.act value.layer in
    let split = targets_same is.target_lines [] value.targets [] is.act_lines (codes "version 258" ∷ codes "trust never" ∷ []) is.targeted tt
    (act_begins is.act_lines value.act is.says_act) (λ front. omega (arith, front)) (sym parts.1) in
    two_lines (codes "version 258") (codes "trust never") is.act_lines value.act split.1 kind is.says_act

pub drafts : DraftExamples
drafts = record {
  surrender = surrender_draft;
  load = load_draft;
  too_short = ends_early (record {
    good = record { more = codes "code 616263" ∷ []; value = order_of_code; stands = load_draft };
    unfinished = half_load;
    number = refl;
  });
}

-- ---- listings

pub listings : ListingExamples
unfolding digits encode_with summary
listings = record { unowned_layer = refl; message = refl; answer = refl; summary = refl }

pub order_lines : OrderLineExamples
order_lines = record {
  order = lemmas.surrender_is;
  written = lemmas.written;
  second = lemmas.order_second surrender_line [] [] surrender lemmas.surrender_is;
  no_line = lemmas.empty IsOrderLine lemmas.order_one (surrender_line ∷ []) surrender lemmas.surrender_is;
  no_order = lemmas.order_first (codes "command 00") ([] ∷ []) lemmas.zero_none;
}
