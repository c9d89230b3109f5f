use Rattle.mb_model_runs.proofs.OfficerLemmas as lemmas
use Rattle.mb_model_runs.proofs.officers.right_officers_are_obeyed.Goals as goal

pub returns : goal.returns
returns c = record {
  signed = lemmas.right_signature;
  countersigned = lemmas.right_countersignature;
  obeyed = lemmas.right_order_obeyed;
}
