use Rattle.mb_lms.proofs.Checked.{verifies_by}
use Rattle.mb_lms.proofs.checker.Checker.finish.Goals as goal

pub returns : goal.returns
returns c = λ key text h.
    verifies_by c.args.self.key key text c.args.sig.now c.finalize.result h.key_kept (c.finalize.ensures _ h.hashed) _ c.leads_to_root.ensures
