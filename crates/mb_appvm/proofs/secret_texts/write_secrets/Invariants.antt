use Rattle.std.proofs.Common.{◌≡◌, take}
use Rattle.mb_appvm.specs.SecretTexts.{secrets_text}
use Rattle.mb_appvm.proofs.secret_texts.write_secrets.Given as goal

abbrev pub invariant-loop-secret : goal.invariant-loop-secret
invariant-loop-secret l = l.text.items ≡ secrets_text (take l.secret-index l.secrets)
