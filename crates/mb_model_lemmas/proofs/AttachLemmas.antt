-- Statements and the chains to which they are attached have spellings, where their parts have them.
use Rattle.std.proofs.Common.{◌≡◌, ◌<◌, ◌≤◌, ℕ, List, [], ◌∷◌, ◌++◌, length, drop, refl, sym, subst, take-append-drop, lit≤, arith}
use Rattle.std.specs.Prelude.{◌==◌, Bool, true, false, not, take_while}
use Rattle.std.specs.List.{prefix_len}
use Rattle.std.specs.Int.{w32}
use Rattle.std.proofs.lemmas.List.Folds.{length-prefix_len}
use Rattle.std.proofs.lemmas.List.Sums.{prefix_len-le-length}
use Rattle.mb_format.specs.Format.{Format}
use Rattle.mb_format.specs.Combinators.{either, items, times, limit}
use Rattle.mb_model.specs.declared.entry.Chain.{Chain}
use Rattle.mb_model.specs.declared.entry.SignedEntry.{SignedEntry}
use Rattle.mb_model.specs.declared.entry.Said.TheVariants.{Message}
use Rattle.mb_model.specs.declared.entry.Statement.{Statement}
use Rattle.mb_model.specs.records.EntryFormat.{signed_entry_format}
use Rattle.mb_model.specs.records.ChainFormat.{answered_format, asked_format, said_format, statement_format, chain_format}
use Rattle.mb_model.specs.chains.Attach.{is_change_above, cut_at, stated_chain}

few : (size : ℕ) → size ≤ 128 → (size == 129) ≡ false
few size short = grind (arith, short)

message_allowed : (size : ℕ) (b : Bool) → b ≡ false → (message : List ℕ) → length message ≡ size → (either b answered_format (asked_format size)).Allowed (Message message)
unfolding asked_format
message_allowed size true is message long = absurd (grind (arith, is))
message_allowed size false is message long = long

pub statement_allowed : (number : ℕ) (message signature : List ℕ) → number < limit w32 → length message ≤ 128 → length signature ≡ 2348
    → statement_format.Allowed (record { number = number; said = Message message; signature = signature })
unfolding statement_format said_format
statement_allowed number message signature small short long = (small, (((omega arith, omega (arith, short)), message_allowed (length message) (length message == 129) (few (length message) short) message refl), long))

-- the first of some items are allowed where all are
front_allowed : {A : Type 0} (item : Format A) (xs ys : List A) → (times (length (xs ++ ys)) item).Allowed (xs ++ ys) → (times (length xs) item).Allowed xs
unfolding items
front_allowed item [] ys h = refl
front_allowed item (x ∷ xs) ys h = (h.0, front_allowed item xs ys h.1)

abbrev stays : ℕ → SignedEntry → Bool
stays n signed = not (is_change_above n signed.entry)

cut_allowed : (n : ℕ) (log : List SignedEntry) → (times (length log) signed_entry_format).Allowed log → (times (length (cut_at n log)) signed_entry_format).Allowed (cut_at n log)
unfolding items
cut_allowed n [] h = h
cut_allowed n (birth ∷ rest) h =
    let whole : rest ≡ take_while (stays n) rest ++ drop (prefix_len (stays n) rest) rest = sym (take-append-drop (prefix_len (stays n) rest) rest) in (
      h.0,
      front_allowed signed_entry_format (take_while (stays n) rest) (drop (prefix_len (stays n) rest) rest)
          (subst (λ (log : List SignedEntry). (times (length log) signed_entry_format).Allowed log) whole h.1),
    )

cut_some : (n : ℕ) (log : List SignedEntry) → 1 ≤ length log → 1 ≤ length (cut_at n log)
cut_some n [] some = some
cut_some n (birth ∷ rest) some = omega arith

cut_shorter : (n : ℕ) (log : List SignedEntry) → length (cut_at n log) ≤ length log
cut_shorter n [] = lit≤ tt
cut_shorter n (birth ∷ rest) = omega (arith, length-prefix_len (stays n) rest, prefix_len-le-length (stays n) rest)

pub stated_allowed : (chain : Chain) (statement : Statement) → chain_format.Allowed chain → statement_format.Allowed statement → chain_format.Allowed (stated_chain chain.entries statement)
unfolding chain_format
stated_allowed chain statement h stated =
    let n = statement.number in
    let fewer = cut_shorter n chain.entries in (
      tt,
      (((cut_some n chain.entries h.1.0.0.0, omega (arith, fewer, h.1.0.0.1)), cut_allowed n chain.entries h.1.0.1), (tt, stated)),
    )
