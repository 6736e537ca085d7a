-- `closed::is_followed` meets its contract: `followed_word` says what is asked of the bytes where the word behind the space ends.
-- Assumes nothing.
use Rattle.std.proofs.Common.{◌≡◌, true, sym, ap, ◌∙◌}
use Rattle.spec.specs.Bytes.{is_ident}
use Rattle.spec.specs.Closed.{ends_word}
use Rattle.closed.proofs.ClosedLaws.{followed_word}
use Rattle.closed.proofs.is_followed.Goals as goal

pub returns-then-is_ident_byte : goal.returns-then-is_ident_byte
returns-then-is_ident_byte c = λ t same.
    let word : is_ident c.byte_at-then-byte_at-eq32.result ≡ true = sym c.is_ident_byte.ensures ∙ c.if-is_ident_byte.true in
    c.ends_word.ensures
    ∙ (ap ends_word c.byte_at-then-is_ident_byte.ensures
    ∙ sym (followed_word t c.args.text.now same c.args.i c.run_end.result c.run_end.ensures.value (sym c.byte_at.ensures ∙ c.if-byte_at-eq32.true) (rw c.byte_at-then-byte_at-eq32.ensures at word)))
