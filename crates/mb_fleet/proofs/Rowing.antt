-- The row of a device whose chain has good entries, and what a register answers to the chain.
use Rattle.std.proofs.Common.{◌≡◌, ◌≤◌, ◌∙◌, ℕ, List, length, Some, Result, Ok, Err, refl, ap, arith}
use Rattle.std.specs.Prelude.{IfSome}
use Rattle.std.proofs.lemmas.List.{length-map}
use Rattle.mb_model.specs.declared.key.PublicKey.{PublicKey}
use Rattle.mb_model.specs.declared.entry.SignedEntry.{SignedEntry}
use Rattle.mb_model.specs.declared.state.Figures.{Figures}
use Rattle.mb_model.specs.owners.Log.{entries_of}
use Rattle.mb_model.specs.records.EntryFormat.{entry_hash}
use Rattle.mb_verifier.specs.declared.chain.Shown.{Shown}
use Rattle.mb_verifier.specs.declared.refusal.ChainRefusal as verifier
use Rattle.mb_verifier.specs.declared.refusal.ChainRefusal.TheVariants as why
use Rattle.mb_verifier.specs.Ends.{chain_refusal_of}
use Rattle.mb_verifier.specs.Entries.{ChainShows, IsEntriesRefused}
use Rattle.mb_verifier.proofs.Verdicts.{entries_few}
use Rattle.mb_fleet.specs.declared.row.CodeHashes.{CodeHashes}
use Rattle.mb_fleet.specs.declared.row.Row.{Row}
use Rattle.mb_fleet.specs.declared.end.Added.{Added}
use Rattle.mb_fleet.specs.declared.end.FleetEnd.{FleetEnd}
use Rattle.mb_fleet.specs.declared.end.FleetEnd.TheVariants as end
use Rattle.mb_fleet.specs.Rows.{code_hashes}
use Rattle.mb_fleet.specs.Showing.{IsShown, is_chain_refused, is_shown}
use Rattle.mb_fleet.specs.Ends.{fleet_end_of, AnswersChain, AnswersRow}

-- ---- the row

pub shown_row : (maker : PublicKey) (bytes : List ℕ) (shown : Shown) (code : CodeHashes) → code ≡ code_hashes shown.figures.layers → ChainShows maker bytes shown
    → IsShown maker bytes (record { serial = shown.serial; number = shown.figures.number; code = code; hashes = shown.hashes })
shown_row maker bytes shown code is shows = record {
  chain = shows.chain;
  spelled = shows.spelled;
  good = shows.good;
  row_is = record {
    serial = shows.serial;
    number = ap (λ (f : Figures). f.number) shows.figures;
    code = is ∙ ap (λ (f : Figures). code_hashes f.layers) shows.figures;
    hashes = shows.hashes;
  };
}

pub shown_few : (maker : PublicKey) (bytes : List ℕ) (shown : Shown) → ChainShows maker bytes shown → length shown.hashes ≤ 128
shown_few maker bytes shown shows =
    omega (
      arith,
      ap length shows.hashes,
      length-map (entries_of shows.chain.entries) entry_hash,
      length-map shows.chain.entries (λ (s : SignedEntry). s.entry),
      entries_few shows.chain shows.spelled.allowed,
    )

-- ---- answers

pub other_end : (e : verifier.ChainRefusal) → (e ≡ why.NoMemory → ⊥) → end.Chain e ≡ fleet_end_of e
other_end (why.Form at) other = refl
other_end (why.Signature entry) other = refl
other_end (why.Order entry) other = refl
other_end (why.Rules entry) other = refl
other_end why.KeyUnknown other = refl
other_end why.StatementSignature other = refl
other_end (why.StatementNumber named last) other = refl
other_end why.NotAlive other = refl
other_end why.NoMemory other = absurd (other refl)

module _ (maker : PublicKey) (rows : List Row) (bytes : List ℕ) where
  pub refusal_answers : (e : verifier.ChainRefusal) → IfSome (chain_refusal_of e) (IsEntriesRefused maker bytes) → AnswersChain maker rows bytes (Err (fleet_end_of e)) rows
  refusal_answers (why.Form at) refuses = (_, refl, is_chain_refused _ refuses refl refl)
  refusal_answers (why.Signature entry) refuses = (_, refl, is_chain_refused _ refuses refl refl)
  refusal_answers (why.Order entry) refuses = (_, refl, is_chain_refused _ refuses refl refl)
  refusal_answers (why.Rules entry) refuses = (_, refl, is_chain_refused _ refuses refl refl)
  refusal_answers why.KeyUnknown refuses = (_, refl, is_chain_refused _ refuses refl refl)
  refusal_answers why.StatementSignature refuses = (_, refl, is_chain_refused _ refuses refl refl)
  refusal_answers (why.StatementNumber named last) refuses = (_, refl, is_chain_refused _ refuses refl refl)
  refusal_answers why.NotAlive refuses = (_, refl, is_chain_refused _ refuses refl refl)
  refusal_answers why.NoMemory refuses = refl

  pub row_answers : (row : Row) (after : List Row) (result : Result Added FleetEnd) → IsShown maker bytes row → AnswersRow rows row result after → AnswersChain maker rows bytes result after
  row_answers row after (Ok answer) shown meets = is_shown row shown meets
  row_answers row after (Err (end.Chain refusal)) shown meets = absurd meets
  row_answers row after (Err (end.Older serial have)) shown meets = is_shown row shown meets
  row_answers row after (Err (end.Fork serial place)) shown meets = is_shown row shown meets
  row_answers row after (Err end.Full) shown meets = is_shown row shown meets
  row_answers row after (Err end.NoMemory) shown meets = meets
