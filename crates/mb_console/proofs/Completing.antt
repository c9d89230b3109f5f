-- A command whose inputs are there in their forms is done or refused, where no call of the host fails.
use Rattle.std.proofs.Common.{◌≡◌, ℕ, ◌+◌, ◌<◌, ◌≤◌, ◌⊎◌, Bool, true, false, List, ◌++◌, codes, length, Option, Some, if◌then◌else◌, refl, sym, ◌∙◌, ap, subst, inl, inr, arith}
use Rattle.std.proofs.Common.{nat_lt}
use Rattle.std.proofs.lemmas.Bool.{ltb-false}
use Rattle.mb_model.specs.outside.Board.{loaded_once_more, having_answered}
use Rattle.mb_model_commands.specs.declared.role.Place.{Place}
use Rattle.mb_model_commands.specs.Outside.{Outside, HasRisen, count_after_call, count_limit, by_fault, by_absence}
use Rattle.mb_model_commands.specs.Commands.{Input, Command, read, find, either_command, load, serve, rehearse, write, print, refuse, lack, Past, Ended, SaysLine, InputEnds, input_is_too_long, input_is_faulty, input_is_not_read, memory_lacks, text_is_printed, text_is_not_printed, CommandEnds, IsFaultless, HasInputsFor, ComesToRefusal, end_seen_from, role_word}

-- ---- counts of faults

rises : (n limit : ℕ) (b : Bool) → nat_lt n limit ≡ b → (n < (if b then n + 1 else n)) ⊎ (limit ≤ (if b then n + 1 else n))
rises n limit true is = inl (omega arith)
rises n limit false is = inr (ltb-false n limit is)

pub raised_rises : (n : ℕ) → HasRisen n (count_after_call n)
unfolding count_after_call
raised_rises n = rises n count_limit (nat_lt n count_limit) refl

-- a line that is printed leaves the read faults
pub says_reads : (line : List ℕ) (before after : Outside) → SaysLine line before after → after.read_faults ≡ before.read_faults
says_reads line before after (inl prints) = ap (λ o. o.read_faults) prints.stays
says_reads line before after (inr fails) = ap (λ o. o.read_faults) fails.stays

-- a line that is printed leaves a risen count of write faults risen
pub says_writes : (line : List ℕ) (n : ℕ) (before after : Outside) → before.write_faults ≡ count_after_call n → SaysLine line before after → HasRisen n after.write_faults
says_writes line n before after is (inl prints) = subst (λ m. HasRisen n m) (sym (ap (λ o. o.write_faults) prints.stays ∙ is)) (raised_rises n)
says_writes line n before after is (inr fails) =
    subst (λ m. HasRisen n m) (sym (ap (λ o. o.write_faults) fails.stays)) (later n before.write_faults (subst (λ m. HasRisen n m) (sym is) (raised_rises n)) (raised_rises before.write_faults))
  where
    later : (n mid : ℕ) → HasRisen n mid → HasRisen mid (count_after_call mid) → HasRisen n (count_after_call mid)
    later n mid (inl rose) (inl more) = inl (omega arith)
    later n mid (inl rose) (inr full) = inr full
    later n mid (inr full) (inl more) = inr (omega arith)
    later n mid (inr full) (inr still) = inr still

-- ---- the end of a command

-- done, or an allocation failed, or a refusal to which the command comes
abbrev pub Completes : Command → (List ℕ → Option (List ℕ)) → ℕ → Type 0
Completes command files status = (status ≡ 0) ⊎ (status ≡ 6) ⊎ ((status ≡ 7) × ComesToRefusal command files)

completes_as : (first second : Command) (files now : List ℕ → Option (List ℕ)) (status : ℕ) → (ComesToRefusal first now → ComesToRefusal second files) → Completes first now status → Completes second files status
completes_as first second files now status also (inl zero) = inl zero
completes_as first second files now status also (inr (inl six)) = inr (inl six)
completes_as first second files now status also (inr (inr seven)) = inr (inr (seven.0, also seven.1))

input_never_ends : {A : Type 0} (input : Input A) (rest : A → Command) (past : Past) (e : Ended) (files : List ℕ → Option (List ℕ)) (bytes : List ℕ) → e.before.files ≡ Some files → files input.name ≡ Some bytes
    → length bytes ≤ 4194304 → ((place : Place) → input.FaultyAt bytes place → ⊥) → IsFaultless e.before e.after → InputEnds input past e → Completes (read input rest) files e.status
input_never_ends input rest past e files bytes told has fits faultless well (input_is_too_long held stops) =
    let found = held files told in
    let same : found.0 ≡ bytes = cc in
    absurd (omega (arith, ap length same, fits, found.2))
input_never_ends input rest past e files bytes told has fits faultless well (input_is_faulty other had place fault stops) =
    let found = had.held files told in
    let same : other ≡ bytes = cc in
    absurd (faultless place (subst (λ b. input.FaultyAt b place) same fault))
input_never_ends input rest past e files bytes told has fits faultless well (input_is_not_read mid (by_fault is) stops) =
    absurd (well.read (subst (λ n. HasRisen e.before.read_faults n) (sym (says_reads (codes "read failed " ++ role_word input.role) mid e.after stops.says ∙ ap (λ o. o.read_faults) is)) (raised_rises e.before.read_faults)))
input_never_ends input rest past e files bytes told has fits faultless well (input_is_not_read mid (by_absence none is) stops) =
    let found = none files told in
    absurd (cc)
input_never_ends input rest past e files bytes told has fits faultless well (memory_lacks wants) = inr (inl wants.stops.status_is)

pub command_completes : (command : Command) (past : Past) (e : Ended) (files : List ℕ → Option (List ℕ)) → e.before.files ≡ Some files → HasInputsFor command files → IsFaultless e.before e.after
    → CommandEnds command past e → Completes command files e.status
unfolding CommandEnds HasInputsFor ComesToRefusal
command_completes (read input rest) past e files told has well (inl ends) =
    input_never_ends input rest past e files has.0 told has.1 has.2 has.3 well ends
command_completes (read input rest) past e files told has well (inr ends) =
    let found = ends.1.held files told in
    let same : ends.0 ≡ has.0 = cc in
    let is : input.Is has.0 ends.2.0 = subst (λ b. input.Is b ends.2.0) same ends.2.1 in
    completes_as (rest ends.2.0) (read input rest) files files e.status (λ refused. (has.0, has.1, (ends.2.0, is, refused)))
    (command_completes (rest ends.2.0) past (end_seen_from (record e.before { reads = count_after_call e.before.reads }) e) files told (has.4 ends.2.0 is) (record { read = well.read; write = well.write }) ends.2.2)
command_completes (find Is rest) past e files told has well (inl ends) =
    completes_as (rest ends.0) (find Is rest) files files e.status (λ refused. (ends.0, ends.1, refused))
    (command_completes (rest ends.0) past e files told (has ends.0 ends.1) well ends.2)
command_completes (find Is rest) past e files told has well (inr wants) = inr (inl wants.stops.status_is)
command_completes (either_command If first second) past e files told has well (inl ends) =
    completes_as first (either_command If first second) files files e.status (λ refused. inl (ends.0, refused)) (command_completes first past e files told (has.0 ends.0) well ends.1)
command_completes (either_command If first second) past e files told has well (inr (inl ends)) =
    completes_as second (either_command If first second) files files e.status (λ refused. inr (ends.0, refused)) (command_completes second past e files told (has.1 ends.0) well ends.1)
command_completes (either_command If first second) past e files told has well (inr (inr wants)) = inr (inl wants.stops.status_is)
command_completes (load image rest) past e files told has well (inl ends) =
    completes_as rest (load image rest) files files e.status (λ refused. refused) (command_completes rest (record past { used = loaded_once_more image past.used }) e files told has well ends)
command_completes (load image rest) past e files told has well (inr wants) = inr (inl wants.stops.status_is)
command_completes (serve IsServed rest) past e files told has well ends =
    completes_as (rest e.used.answered e.final) (serve IsServed rest) files files e.status (λ refused. (e.used.answered, e.final, ends.1, refused))
    (command_completes (rest e.used.answered e.final) (record past { used = e.used }) e files told (has e.used.answered e.final ends.1) well ends.2)
command_completes (rehearse IsRehearsed rest) past e files told has well ends =
    completes_as (rest ends.0 ends.1) (rehearse IsRehearsed rest) files files e.status (λ refused. (ends.0, ends.1, ends.2, refused))
    (command_completes (rest ends.0 ends.1) (record past { used = having_answered ends.0 past.used }) e files told (has ends.0 ends.1 ends.2) well ends.3)
command_completes (write output rest) past e files told has well (inl ends) =
    absurd (well.write (says_writes (codes "write failed " ++ role_word output.role) e.before.write_faults ends.mid e.after (ap (λ o. o.write_faults) ends.fails.stays) ends.stops.says))
command_completes (write output rest) past e files told has well (inr (inl ends)) =
    let now = ends.1.others files told in
    let stays = ends.1.stays in
    completes_as rest (write output rest) files now.0 e.status (λ refused. (now.0, now.2, refused))
    (command_completes rest (record past { wrote = true }) (end_seen_from ends.0 e) now.0 now.1 (has now.0 now.2) (record {
      read = λ rose. well.read (subst (λ n. HasRisen n e.after.read_faults) (ap (λ o. o.read_faults) stays) rose);
      write = λ rose. well.write (subst (λ n. HasRisen n e.after.write_faults) (ap (λ o. o.write_faults) stays) rose);
    }) ends.2)
command_completes (write output rest) past e files told has well (inr (inr wants)) = inr (inl wants.stops.status_is)
command_completes (print text) past e files told has well (inl (text_is_printed prints same is)) = inl is
command_completes (print text) past e files told has well (inl (text_is_not_printed mid fails stops)) =
    absurd (well.write (says_writes (codes "write failed output") e.before.write_faults mid e.after (ap (λ o. o.write_faults) fails.stays) stops.says))
command_completes (print text) past e files told has well (inr wants) = inr (inl wants.stops.status_is)
command_completes (refuse line) past e files told has well (inl stops) = inr (inr (stops.status_is, tt))
command_completes (refuse line) past e files told has well (inr wants) = inr (inl wants.stops.status_is)
command_completes lack past e files told has well stops = inr (inl stops.status_is)
