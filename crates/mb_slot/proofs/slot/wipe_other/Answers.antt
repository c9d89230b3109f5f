use Rattle.std.proofs.Common.{◌≡◌, ℕ, refl, sym, subst, rules}
use Rattle.std.proofs.lemmas.List.Elements.{All-replicate}
use Rattle.mb_model.specs.memories.Memory.{IsBlank}
use Rattle.mb_slot.proofs.Slotted.{on_ok, but_other, agree_besides, other_other}
use Rattle.mb_slot.proofs.slot.wipe_other.Goals as goal

pub returns : goal.returns
returns g c = record {
  blank = on_ok c.write_other.result (λ done. subst IsBlank (sym done) (All-replicate (λ (byte : ℕ). byte ≡ 0) 4096 0 refl)) c.write_other.ensures.done;
  current = c.write_other.ensures.current;
  idle = search rules;
  writes = λ some. c.write_other.ensures.writes;
  others = λ m least most apart. other_other c.args.slot m _ _ c.requires.can_use.least c.requires.can_use.most least most apart c.requires.can_use.loaded.bbram (but_other c.args.slot _ _ c.write_other.ensures.ran.rest);
  besides = agree_besides c.args.slot _ _ c.requires.can_use.least c.requires.can_use.most c.requires.can_use.loaded.bbram (but_other c.args.slot _ _ c.write_other.ensures.ran.rest);
  ran = c.write_other.ensures.ran;
}
