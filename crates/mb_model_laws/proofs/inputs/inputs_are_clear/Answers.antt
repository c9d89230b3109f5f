use Rattle.std.proofs.Common.{arith}
use Rattle.mb_format.proofs.Whole.{IsClearWhole-from_exact}
use Rattle.mb_model.proofs.KeyFormatLaws.{public_key_exact, keyfile_exact}
use Rattle.mb_model.proofs.EntryFormatLaws.{chain_exact}
use Rattle.mb_model.specs.memories.Migration.{from_present, from_before}
use Rattle.mb_model_lemmas.proofs.FaultLemmas as faults
use Rattle.mb_model_laws.proofs.ClearTexts as texts
use Rattle.mb_model_laws.proofs.inputs.inputs_are_clear.Goals as goal

pub returns : goal.returns
returns c = record {
  key_noise = λ name bytes value place are is faulty. omega (arith, is.0, faulty.0);
  birth_noise = λ name bytes value place are is faulty. omega (arith, is.0, faulty.0);
  key = λ name bytes value place are is faulty.
      (IsClearWhole-from_exact keyfile_exact).never_both bytes value faulty.0 are is faulty.2;
  owner = λ name bytes value place are is faulty.
      (IsClearWhole-from_exact public_key_exact).never_both bytes value faulty.0 are is faulty.2;
  code = λ name bytes value place are is faulty. omega (arith, is.0, faulty.0);
  draft = λ name bytes value place are is faulty. texts.drafts.never_both bytes value faulty.0 is faulty.2;
  order = λ name bytes value place are is faulty. texts.order_lines.never_both bytes value faulty.0 is faulty.2;
  image = λ name bytes value place are is faulty. faults.well_formed_has_no_fault bytes value.state faulty.0 are is.1 faulty.2;
  old_image = λ name bytes value place are is faulty. elim is.0 [
    | from_present state formed written ↦ faults.well_formed_has_no_fault bytes state faulty.0 are formed faulty.2.told
    | from_before none state formed written ↦ faulty.2.not_before state formed
  ];
  script = λ name bytes value place are is faulty. texts.scripts.never_both bytes value faulty.0 is faulty.2;
  root = λ name bytes value place are is faulty.
      (IsClearWhole-from_exact public_key_exact).never_both bytes value faulty.0 are is faulty.2;
  chain = λ name bytes value place are is faulty.
      (IsClearWhole-from_exact chain_exact).never_both bytes value faulty.0 are is faulty.2;
  chain_bytes = λ name bytes value place are is faulty. faulty;
  statement = λ name bytes value place are is faulty. texts.statement_lines.never_both bytes value faulty.0 is faulty.2;
  noise = λ events name bytes value place are is faulty. omega (arith, is.enough, faulty.1);
}
