use Rattle.mb_model.specs.memories.OldFlash.{HeldPublic}
use Rattle.mb_model_lemmas.proofs.FaultLemmas.{one_fault_by, no_fault_by, formed_or_faulty_by, one_state_by}
use Rattle.mb_model_lemmas.proofs.OldFlashLemmas.{old_holds_one, old_parts_fit}
use Rattle.mb_model_laws.proofs.meaning.old_images_are_clear.Goals as goal

pub returns : goal.returns
returns c = record {
  public = old_holds_one;
  fit = old_parts_fit;
  fault = λ image a b are. one_fault_by HeldPublic old_holds_one image are a b;
  none = λ image state fault are. no_fault_by HeldPublic old_holds_one image are state fault;
  either = formed_or_faulty_by HeldPublic;
  state = λ image a b are. one_state_by HeldPublic old_holds_one image are a b;
}
