use Rattle.std.proofs.Common.{ℕ, List, arith, refl, sym, ap, subst, ◌∙◌}
use Rattle.mb_model.specs.records.HeaderFormat.{header_format}
use Rattle.mb_model.specs.memories.Sectors.{BeginsAs}
use Rattle.mb_signer.specs.Benches.{HasTree}
use Rattle.std.specs.Option.{option_copied}
use Rattle.mb_segments.specs.Uncopied.{header_of}
use Rattle.mb_boot.specs.Calls.{SignsOnce}
use Rattle.mb_boot.specs.Completions.{IsSignedSector}
use Rattle.mb_boot.proofs.Completed.{text_fits, signed_next, nothing_next}
use Rattle.mb_boot.proofs.Signers.{no_text_there}
use Rattle.mb_boot.proofs.pending.sign_next.Goals as goal

pub returns-in_default-clause-signed : goal.returns-in_default-clause-signed
returns-in_default-clause-signed g c =
    nothing_next c.args.root.now c.args.place c.args.room.now.header.items c.as_slice.result.now c.args.room.now.log.items (header_of c.held_header-header.result) c.as_slice.ensures.value c.held_header-header.ensures.only
    (sym c.text_in.ensures ∙ ap option_copied c.in_default.is)

pub sign_text-requires-clause-text : goal.sign_text-requires-clause-text
sign_text-requires-clause-text g c =
    text_fits (header_of c.held_header-header.result) c.args.place c.in-Some.text.now c.requires.place c.held_header-header.ensures.holds.spelled.allowed (sym c.text_in.ensures ∙ ap option_copied c.in-Some.is)

pub returns-clause-signed : goal.returns-clause-signed
returns-clause-signed g c =
    signed_next c.args.root.now c.args.place _ c.args.room.now.header.items c.as_slice.result.now c.in-Some.text.now c.sign_text.new.log.items (header_of c.held_header-header.result) c.as_slice.ensures.value
    c.held_header-header.ensures.only refl (sym c.text_in.ensures ∙ ap option_copied c.in-Some.is) (subst (λ signer. IsSignedSector signer c.in-Some.text.now c.sign_text.new.log.items) c.signer_of-signer.ensures.signer c.sign_text.ensures.signed)

pub returns-in_default-clause-kept : goal.returns-in_default-clause-kept
returns-in_default-clause-kept g c = λ header begins some. absurd (
    no_text_there header c.args.place (header_of c.held_header-header.result)
    (c.held_header-header.ensures.only header (subst (λ (xs : List ℕ). BeginsAs header_format xs header) (sym c.as_slice.ensures.value) begins))
    (sym c.text_in.ensures ∙ ap option_copied c.in_default.is) some)

pub returns-clause-kept : goal.returns-clause-kept
returns-clause-kept g c = λ header begins some. subst (λ signer. HasTree c.sign_text.new.bench signer.key) c.signer_of-signer.ensures.signer c.sign_text.ensures.kept

pub returns-in_default-clause-signing : goal.returns-in_default-clause-signing
returns-in_default-clause-signing g c = record { beside = λ room key has. has; cost = omega arith; again = λ has. omega arith }

pub returns-clause-signing : goal.returns-clause-signing
returns-clause-signing g c = subst (λ signer. SignsOnce signer.key c.args.bench.now c.sign_text.new.bench c.args.hashes.now c.sign_text.new.hashes) c.signer_of-signer.ensures.signer c.sign_text.ensures.signing
