-- `spans::dollar_of` meets its contract. The definition is rewritten with where `seek` finds the delimiter again, which
-- says that it stands there, or with the text's length, at which nothing stands. Assumes nothing.
use Rattle.std.proofs.Common.{◌≡◌, sym, ◌+◌, ◌<◌, false, None, length, take, drop, arith, add-zero}
use lib.ListN.{length-drop}
use lib.Seq.{length-take-le}
use Rattle.spec.specs.Bytes.{is_prefix}
use Rattle.spec.specs.Spans.{seek_len, dollar_of}
use Rattle.spec.proofs.SpanLaws.{seek_le}
use Rattle.spans.proofs.PlaceLaws.{none_found, too_short}
use Rattle.spans.specs.Places.{seek_place}
use Rattle.spans.proofs.dollar_of.Goals as goal

pub returns-in-None : goal.returns-in-None
unfolding dollar_of
returns-in-None c =
    let xs = c.args.rest.now in
    let n = c.args.n in
    let h : None ≡ seek_place (take n xs) (drop n xs) = rw (c.split_at.ensures.front, c.split_at.ensures.back) at c.in-None.ensures in
    let k = seek_len (take n xs) (drop n xs) in
    let whole : k ≡ length (drop n xs) = omega (arith, none_found (take n xs) (drop n xs) h, seek_le (take n xs) (drop n xs)) in
    let some : 0 < length (take n xs) = omega (arith, length-take-le n xs c.requires.n_in_bounds, c.requires.n_nonzero) in
    let gone : is_prefix (take n xs) (drop k (drop n xs)) ≡ false = too_short (take n xs) (drop k (drop n xs)) (omega (arith, some, whole, length-drop k (drop n xs))) in
    let long : length xs ≡ n + k = omega (arith, whole, length-drop n xs, c.requires.n_in_bounds) in
    simp (gone, add-zero, long, c.split_at.ensures.back, sym whole)
