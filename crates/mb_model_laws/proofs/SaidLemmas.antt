-- Lemmas on what lines can say.
use Rattle.std.proofs.Common.{ℕ, ◌-◌, inl, inr, List, [], ◌∷◌, ◌++◌, length, get_or, replicate, refl, ap, arith}
use Rattle.std.specs.Prelude.{codes}
use Rattle.std.specs.Fmt.{decimal}
use Rattle.std.proofs.lemmas.Bool.{cases_lt}
use Rattle.std.proofs.lemmas.List.{get_or_append_left, get_or_past}
use Rattle.hex.specs.Hex.{IsBytes}
use Rattle.mb_model.specs.declared.event.Event.{Event}
use Rattle.mb_model.specs.declared.event.Event.TheVariants as event
use Rattle.mb_model.specs.declared.event.Tear.{Tear}
use Rattle.mb_model.specs.chains.Lines.{spaced_words, hex_word}
use Rattle.mb_model.specs.chains.Script.{IsTear, IsCut, IsScriptEvent, called_word, IsCutLine, EndsInHex, SaysEvent}
use Rattle.mb_model_lemmas.proofs.WordLemmas.{hex_word-read}
use Rattle.mb_model_laws.specs.TextLaws.{HoldsBytes, undrawn}

-- ---- written words

ends : (words : List (List ℕ)) (bytes : List ℕ) → IsBytes bytes → EndsInHex (spaced_words (words ++ hex_word bytes ∷ [])) words bytes
ends words bytes are = (hex_word bytes, hex_word-read bytes are, refl)

-- ---- what a line can give, some line gives

-- the bytes that fill stand in their field
fill_bytes : (tear : Tear) (fill : List ℕ) → IsTear tear fill → IsBytes tear.fill → IsBytes fill
fill_bytes tear fill is are i =
    elim (cases_lt i (length fill)) [
      | inl less ↦
          let here = get_or_append_left fill (replicate (16 - length fill) 0) 0 i less in
          let field = ap (λ (t : Tear). get_or t.fill i 0) is.made in
          let small = are i in
          omega (arith, here, field, small)
      | inr past ↦ omega (arith, get_or_past fill i 0 past)
    ]

cut_said : (count : ℕ) (tear : Tear) (fill : List ℕ) → IsCut count tear fill → IsBytes tear.fill → (line : List ℕ) × IsCutLine line count tear
cut_said count tear fill is are = (
  spaced_words (codes "cut" ∷ decimal count ∷ codes "keep" ∷ decimal tear.keep ∷ codes "fill" ∷ hex_word fill ∷ []),
  record {
    kept_words = codes "keep" ∷ decimal tear.keep ∷ [];
    fill_word = hex_word fill;
    fill = fill;
    kept = inl refl;
    filled = hex_word-read fill (fill_bytes tear fill is.torn are);
    allowed = is;
    spelled = refl;
  },
)

pub said : (e : Event) → IsScriptEvent e → HoldsBytes e → (line : List ℕ) × SaysEvent line (undrawn e)
said event.Boot is are = (codes "boot", refl)
said event.Off is are = (codes "off", refl)
said event.Tamper is are = (codes "tamper", refl)
said event.Status is are = (codes "status", refl)
said event.Go is are = (codes "go", refl)
said (event.Cut count tear) is are = cut_said count tear is.0 is.1 are
said (event.Order text draw) is are =
    (spaced_words (codes "command" ∷ hex_word text ∷ []), (ends (codes "command" ∷ []) text are, refl))
said (event.Put region name value) is are =
    (spaced_words (codes "put" ∷ decimal region ∷ name ∷ hex_word value ∷ []), (is.0, is.1, is.2, ends (codes "put" ∷ decimal region ∷ name ∷ []) value are))
said (event.Get region name) is are = (spaced_words (codes "get" ∷ decimal region ∷ name ∷ []), (is.0, is.1, refl))
said (event.Drop region name) is are = (spaced_words (codes "drop" ∷ decimal region ∷ name ∷ []), (is.0, is.1, refl))
said (event.Sign region key message) is are =
    (spaced_words (codes "sign" ∷ decimal region ∷ decimal key ∷ hex_word message ∷ []), (is.0, is.1, is.2, ends (codes "sign" ∷ decimal region ∷ decimal key ∷ []) message are))
said (event.Call region key input) is are =
    (spaced_words (codes "call" ∷ decimal region ∷ called_word key ∷ hex_word input ∷ []), (is.0, is.1, is.2, ends (codes "call" ∷ decimal region ∷ called_word key ∷ []) input are))
