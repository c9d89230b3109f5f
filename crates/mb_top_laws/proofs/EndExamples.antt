-- Ends of `disasm` and of `run`, undisturbed and disturbed.
use Rattle.std.proofs.Common.{ℕ, List, [], ◌++◌, refl, inl, inr, arith, lit≤}
use Rattle.std.specs.Prelude.{codes}
use Rattle.std.proofs.lemmas.List.Elements.{All-nil}
use Rattle.mb_format.proofs.Exact.{IsBytes-none}
use Rattle.mb_model.specs.outside.Board.{Held, held_at_load, not_used}
use Rattle.mb_model.specs.outside.Texts.{line_with_lf}
use Rattle.mb_model_commands.specs.Outside.{Outside, count_after_call, read_once, by_fault}
use Rattle.mb_model_commands.specs.Commands.{Ended, input_is_not_read, memory_lacks, text_is_printed, CommandEnds}
use Rattle.mb_model_commands.specs.Commands.{at_first}
use Rattle.mb_console.specs.Words.{Argument}
use Rattle.mb_top.specs.declared.table.Command.TheVariants as command
use Rattle.mb_top.specs.Top.{command_of}
use Rattle.mb_tools_app.specs.AppInputs.{IsCodeOf}
use Rattle.mb_tools_app.specs.AssemblyCommands.{line_of_count, disasm}
use Rattle.mb_top_laws.specs.EndLaws.{empty_files, DisturbedEndsDiffer}
use Rattle.mb_top_laws.proofs.FreshHosts.{fresh, after_print, after_write, printed_so, written_so, has_read, none_risen}

-- a board that was loaded with nothing
abbrev empty_held : Held
empty_held = held_at_load (record { flash = []; bbram = [] })

-- ---- `disasm` of an empty file

no_code : IsCodeOf [] []
no_code = record { short = lit≤ tt; allowed = All-nil _; whole = refl }

abbrev lines_text : List ℕ
lines_text = line_with_lf (line_of_count (codes "lines") 0)

module _ (given : List Argument) (printed : List ℕ) where
  abbrev start : Outside
  start = fresh empty_files printed

  abbrev after_done : Outside
  after_done = after_print (printed ++ lines_text) (after_write empty_files (read_once start))

  abbrev done : Ended
  done = record { before = start; after = after_done; used = not_used; final = empty_held; status = 0 }

  done_ends : CommandEnds (command_of command.Disasm given) at_first done
  unfolding CommandEnds disasm
  done_ends = inr (
    [],
    has_read _ [] empty_files start refl refl IsBytes-none (lit≤ tt),
    (
      [],
      no_code,
      inr (inl (
        after_write empty_files (read_once start),
        written_so _ [] empty_files empty_files (read_once start) refl refl (λ other differs. refl),
        inl (text_is_printed (printed_so lines_text printed (after_write empty_files (read_once start)) refl) refl refl),
      )),
    ),
  )

  abbrev read_failed : Outside
  read_failed = record (read_once start) { read_faults = count_after_call 0 }

  abbrev failed : Ended
  failed = record { before = start; after = after_print (printed ++ codes "read failed code\n") read_failed; used = not_used; final = empty_held; status = 4 }

  failed_ends : CommandEnds (command_of command.Disasm given) at_first failed
  unfolding CommandEnds disasm
  failed_ends = inl (input_is_not_read read_failed (by_fault refl) (record { says = inl (printed_so (codes "read failed code\n") printed read_failed refl); used = refl; status_is = refl }))

  abbrev lacking : Ended
  lacking = record { before = start; after = after_print (printed ++ codes "no memory\n") (read_once start); used = not_used; final = empty_held; status = 6 }

  lacking_ends : CommandEnds (command_of command.Disasm given) at_first lacking
  unfolding CommandEnds disasm
  lacking_ends = inl (memory_lacks (record {
    first = refl;
    stops = record { says = inl (printed_so (codes "no memory\n") printed (read_once start) refl); used = refl; status_is = refl };
  }))

  pub disturbed_ends_differ : DisturbedEndsDiffer given printed
  disturbed_ends_differ = record {
    done = done;
    is_done = record {
      ends = done_ends;
      shown = record { files_are = refl; printed_is = refl };
      faultless = record { read = none_risen; write = none_risen };
      found = λ is. omega (arith, is);
    };
    status = refl;
    failed = failed;
    is_failed = (failed_ends, record { files_are = refl; printed_is = refl });
    found = λ is. omega (arith, is);
    other = λ alike. omega (arith, alike.status);
    lacking = lacking;
    is_lacking = (lacking_ends, record { files_are = refl; printed_is = refl });
    faultless = record { read = none_risen; write = none_risen };
    another = λ alike. omega (arith, alike.status);
  }
