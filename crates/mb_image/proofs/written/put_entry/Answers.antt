use Rattle.std.proofs.Common.{◌≡◌, ◌∙◌, ℕ, List, ap, length, arith}
use Rattle.mb_model.specs.declared.entry.SignedEntry.{SignedEntry}
use Rattle.mb_model.specs.records.EntryFormat.{entry_format}
use Rattle.mb_model.specs.records.HeaderFormat.{log_format}
use Rattle.mb_model.specs.memories.WrittenFlash.{entry_in_log}
use Rattle.mb_model.proofs.FormatBounds.{entry_short}
use Rattle.mb_model_lemmas.proofs.PublicLemmas.{entry_from_signed}
use Rattle.mb_model_lemmas.proofs.WrittenLemmas.{entry_some, entry_fits}
use Rattle.mb_image.proofs.WrittenSectors.{padded}
use Rattle.mb_image.proofs.written.put_entry.Goals as goal

-- what is put is what the sector of the entry begins with
in_log : (signed : SignedEntry) (text : List ℕ) → text ≡ entry_format.spelling signed.entry → log_format.spelling (text, signed.signature) ≡ entry_in_log signed
in_log signed text is = ap (λ (bytes : List ℕ). log_format.spelling (bytes, signed.signature)) is

pub spell_entry-requires : goal.spell_entry-requires
spell_entry-requires c = entry_from_signed c.args.signed.now c.requires

pub put_log-requires : goal.put_log-requires
put_log-requires c =
    let text = ap length (c.deref.ensures.value ∙ c.spell_entry.ensures) in
    let entry = c.args.signed.now.entry in (
      omega (arith, text, entry_some entry),
      omega (arith, text, entry_short.short entry (entry_from_signed c.args.signed.now c.requires)),
    )

pub overflow_sub-len-2 : goal.overflow_sub-len-2
overflow_sub-len-2 c =
    let put = in_log c.args.signed.now c.deref.result.now (c.deref.ensures.value ∙ c.spell_entry.ensures) in
    omega (arith, ap length put, entry_fits c.args.signed.now c.requires, c.in_ok-put_log.ensures.len, c.len.ensures, c.len-start.ensures)

pub returns : goal.returns
returns c =
    let put = in_log c.args.signed.now c.deref.result.now (c.deref.ensures.value ∙ c.spell_entry.ensures) in
    rw (← put) (padded 1 (log_format.spelling (c.deref.result.now, c.args.signed.now.signature)) _ _ _ _ _ c.in_ok-put_log.ensures (omega (arith, c.len.ensures, c.len-start.ensures)) c.put_erased.ensures)
