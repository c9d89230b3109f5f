-- Outputs that are written one after another.
use Rattle.std.proofs.Common.{◌≡◌, List, [], ◌∷◌, map, true, Result, Ok, Err, refl, sym, subst, inl, inr}
use Rattle.std.specs.Prelude.{IfErr}
use Rattle.mb_model.specs.outside.Board.{Held, Used}
use Rattle.mb_model_commands.specs.Outside.{Outside, WritesFile, FailsToWrite}
use Rattle.mb_model_commands.specs.Commands.{Output as Written, Command, write, Past}
use Rattle.mb_console.specs.declared.output.Output.{Output}
use Rattle.mb_console.specs.declared.end.End.{End}
use Rattle.mb_console.specs.declared.end.End.TheVariants as end
use Rattle.mb_console.specs.Ending.{CarriesOutAfter, CarriesOutRest}
use Rattle.mb_console.specs.Outputs.{output_of, writes, WritesAll, StopsWriting}
use Rattle.mb_console.proofs.CommandLemmas.{write_goes, write_stops}

-- ---- one after another

-- the first of them is not written
pub one_stops : (outputs rest : List Output) (output : Output) (before now : Outside) (why : End) → outputs ≡ output ∷ rest
    → why ≡ end.NotWritten output.role → FailsToWrite output.name.now before now → StopsWriting (map output_of outputs) before why now
one_stops outputs rest output before now why is ends fails =
    subst (λ (l : List Output). StopsWriting (map output_of l) before why now) (sym is) (inl (ends, fails))

-- one that comes later is not
pub later_stop : (outputs rest : List Output) (output : Output) (before mid now : Outside) (result : Result (Unit {0}) End) → outputs ≡ output ∷ rest
    → WritesFile output.name.now output.bytes.now before mid → IfErr result (λ why. StopsWriting (map output_of rest) mid why now)
    → IfErr result (λ why. StopsWriting (map output_of outputs) before why now)
later_stop outputs rest output before mid now (Ok u) is written stops = stops
later_stop outputs rest output before mid now (Err why) is written stops =
    subst (λ (l : List Output). StopsWriting (map output_of l) before why now) (sym is) (inr (mid, written, stops))

-- ---- and then the rest

-- the outputs were written, and the rest of the command was carried out after them
pub all_written : (outputs : List Written) (rest : Command) (past : Past) (used : Used) (final : Held) (before mid now : Outside) (result : Result (Unit {0}) End)
    → WritesAll outputs before mid → ((later : Past) → later.used ≡ past.used → CarriesOutRest rest later used final mid result now)
    → CarriesOutRest (writes outputs rest) past used final before result now
unfolding writes
all_written [] rest past used final before mid now result same carried =
    subst (λ o. CarriesOutRest rest past used final o result now) same (carried past refl)
all_written (output ∷ outputs) rest past used final before mid now result all carried =
    write_goes output (writes outputs rest) past used final before all.0 now result all.1
    (all_written outputs rest (record past { wrote = true }) used final all.0 mid now result all.2 (λ later same. carried later same))

-- the same of a command that leaves the board alone
pub alone_written : (outputs : List Written) (rest : Command) (before mid now : Outside) (result : Result (Unit {0}) End)
    → WritesAll outputs before mid → CarriesOutAfter rest mid result now → CarriesOutAfter (writes outputs rest) before result now
alone_written outputs rest before mid now result all carried = λ past final.
    all_written outputs rest past past.used final before mid now result all
    (λ later same. subst (λ (u : Used). CarriesOutRest rest later u final mid result now) same (carried later final))

-- one of them was not written, whatever was to come after them
pub stops_carried : (outputs : List Written) (rest : Command) (before now : Outside) (why : End) → StopsWriting outputs before why now
    → CarriesOutAfter (writes outputs rest) before (Err why) now
unfolding writes
stops_carried [] rest before now why stops = absurd stops
stops_carried (output ∷ outputs) rest before now why (inl stops) = λ past final.
    subst (λ w. CarriesOutRest (write output (writes outputs rest)) past past.used final before (Err w) now) (sym stops.0)
    (write_stops output (writes outputs rest) past past.used final before now refl stops.1)
stops_carried (output ∷ outputs) rest before now why (inr stops) = λ past final.
    write_goes output (writes outputs rest) past past.used final before stops.0 now (Err why) stops.1
    (stops_carried outputs rest stops.0 now why stops.2 (record past { wrote = true }) final)
