-- What a host shows that has not been called, and after calls that do not fail.
use Rattle.std.proofs.Common.{◌≡◌, ◌≢◌, ℕ, ◌≤◌, List, ◌++◌, length, Some, refl, sym, ◌∙◌, ap, inl, inr, arith}
use Rattle.std.proofs.lemmas.Option.{same_Some}
use Rattle.mb_format.specs.Format.{IsBytes}
use Rattle.mb_model_commands.specs.Outside.{Outside, HasRisen, count_after_call, WritesFile, Prints}
use Rattle.mb_model_commands.specs.Commands.{HasRead}
use Rattle.mb_model_histories.specs.KeyFileLaws.{Files}

-- a host that has not been called
abbrev pub fresh : Files → List ℕ → Outside
fresh files printed =
    record { files = Some files; printed = Some printed; read_faults = 0; absences = 0; write_faults = 0; reads = 0; writes = 0; prints = 0 }

-- after a print, and after a write that leaves these files
abbrev pub after_print : List ℕ → Outside → Outside
after_print now before = record before { printed = Some now; prints = count_after_call before.prints }

abbrev pub after_write : Files → Outside → Outside
after_write files before = record before { files = Some files; writes = count_after_call before.writes }

pub printed_so : (text printed : List ℕ) (before : Outside) → before.printed ≡ Some printed → Prints text before (after_print (printed ++ text) before)
printed_so text printed before is = record {
  stays = refl;
  adds = λ shown told. ap (λ (p : List ℕ). Some (p ++ text)) (same_Some printed shown (sym is ∙ told));
}

pub written_so : (name bytes : List ℕ) (files now : Files) (before : Outside) → before.files ≡ Some files → now name ≡ Some bytes → ((other : List ℕ) → other ≢ name → now other ≡ files other)
    → WritesFile name bytes before (after_write now before)
written_so name bytes files now before is holds others = record {
  stays = refl;
  others = λ shown told. (now, refl, λ other differs. others other differs ∙ ap (λ (f : Files). f other) (same_Some files shown (sym is ∙ told)));
  holds = λ shown told. ap (λ (f : Files). f name) (sym (same_Some now shown told)) ∙ holds;
}

pub has_read : (name bytes : List ℕ) (files : Files) (outside : Outside) → outside.files ≡ Some files → files name ≡ Some bytes → IsBytes bytes → length bytes ≤ 4194304 → HasRead outside name bytes
has_read name bytes files outside is at are fits = record {
  held = λ shown told. ap (λ (f : Files). f name) (sym (same_Some files shown (sym is ∙ told))) ∙ at;
  are_bytes = are;
  fits = fits;
}

-- counts that stay 0 have not risen
pub none_risen : HasRisen 0 0 → ⊥
none_risen (inl less) = omega (arith, less)
none_risen (inr full) = omega (arith, full)
