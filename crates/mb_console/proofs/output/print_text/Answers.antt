use Rattle.std.proofs.Common.{refl}
use Rattle.mb_console.proofs.CommandLemmas.{print_goes, print_stops}
use Rattle.mb_console.proofs.output.print_text.Goals as goal

pub returns-in-Ok : goal.returns-in-Ok
returns-in-Ok g c = λ past final.
    print_goes c.args.text.now past past.used final (g.H.Host.outside c.args.host.now) (g.H.Host.outside c.print.new.self) refl c.in-Ok.ensures.done

pub returns-in-Err : goal.returns-in-Err
returns-in-Err g c = λ past final.
    print_stops c.args.text.now past past.used final (g.H.Host.outside c.args.host.now) (g.H.Host.outside c.print.new.self) refl c.in-Err.ensures.failed
