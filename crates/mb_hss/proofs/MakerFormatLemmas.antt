-- What bytes that spell a maker's file are.
use Rattle.std.proofs.Common.{ℕ, ◌≤◌, ◌≡◌, ◌%◌, List, [], ◌∷◌, ◌++◌, length, ap, ◌∙◌, arith}
use Rattle.std.specs.Int.{w8, w64, to_be_bytes}
use Rattle.std.specs.Prelude.{IfOk, Result, Ok, Err}
use Rattle.mb_format.specs.Format.{Spells}
use Rattle.mb_model.specs.declared.tools.BadRecord.{BadRecord}
use Rattle.mb_bytes.specs.Reads.{bad_at, ReadsWhole}
use Rattle.mb_format.specs.Combinators.{number_bytes}
use Rattle.mb_hss.specs.declared.maker.Maker.{Maker}
use Rattle.mb_hss.specs.MakerKeys.{IsMaker}
use Rattle.mb_hss.specs.MakerFormat.{maker_word, maker_format}

-- what is read is a maker that signs
pub read_is_maker : (bytes : List ℕ) (r : Result Maker BadRecord) → ReadsWhole bad_at maker_format bytes r → IfOk r IsMaker
unfolding maker_format
read_is_maker bytes (Err bad) fails = tt
read_is_maker bytes (Ok maker) spells =
    let allowed = spells.allowed.1 in
    record { least = allowed.0.0; most = allowed.0.1; next = allowed.1.1.1 }

-- the four fields in a row spell a maker
pub maker_spells : (bytes levels next : List ℕ) (maker : Maker) → IsMaker maker → length maker.seed ≡ 32 →
    levels ≡ to_be_bytes w8 maker.levels → next ≡ to_be_bytes w64 maker.next → bytes ≡ maker_word ++ levels ++ maker.seed ++ next →
    Spells maker_format bytes maker
unfolding maker_format number_bytes
maker_spells bytes levels next maker is long first last e = record {
  allowed = (tt, ((is.least, is.most), (long, (omega arith, is.next))));
  whole =
      e ∙ ap (λ (x : List ℕ). maker_word ++ x ++ maker.seed ++ next) first
      ∙ ap (λ (x : List ℕ). maker_word ++ to_be_bytes w8 maker.levels ++ maker.seed ++ x) last;
}

-- a number of levels is one byte
pub one_byte : (n : ℕ) → n ≤ 8 → n ∷ [] ≡ to_be_bytes w8 n
one_byte n within =
    let same : n ≡ n % 256 = omega arith in
    ap (λ (x : ℕ). x ∷ []) same
