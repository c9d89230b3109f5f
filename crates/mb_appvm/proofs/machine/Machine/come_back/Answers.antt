use Rattle.std.proofs.lemmas.Bool.{false≢true}
use Rattle.mb_appvm.proofs.Actions.{comes_back, stays}
use Rattle.mb_appvm.proofs.machine.Machine.come_back.Goals as goal

pub returns-in-Some : goal.returns-in-Some
returns-in-Some c = λ input. comes_back input c.args.next c.in-Some.place c.args.self.now c.go.new.self c.pop.new.self c.go.result c.in-Some.ensures.items c.go.ensures.goes c.go.ensures.place

pub returns-in-None : goal.returns-in-None
returns-in-None c = λ input. stays input c.args.next c.args.self.now c.pop.new.self c.in-None.ensures.empty (λ some. false≢true (c.in-None.ensures.variant.1 some))
