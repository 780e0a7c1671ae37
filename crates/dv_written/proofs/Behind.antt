-- A text that is put behind a front, into what stands there.
use Rattle.std.proofs.Common.{◌≡◌, ◌+◌, ◌≤◌, ℕ, List, ◌++◌, take, length}
use Rattle.std.proofs.Common.{sym, ap, ◌∙◌, arith, length-append}
use Rattle.std.proofs.lemmas.List.{take-append-le, length-take-le}
use Rattle.std.proofs.Math.Seq.{take-append-add}
use borrow.Rule.Slice.PartMut.{put_mid, post_of}

-- a part that is put behind a front of so many
pub behind : (xs ys zs : List ℕ) (a n : ℕ) → length xs ≡ a → n ≤ length ys → take (a + n) (xs ++ (ys ++ zs)) ≡ xs ++ take n ys
behind xs ys zs a n size few =
    ap (λ k. take (k + n) (xs ++ (ys ++ zs))) (sym size) ∙ take-append-add xs (ys ++ zs) n ∙ ap (λ t. xs ++ t) (take-append-le n ys zs few)

-- the rest of a room begins with a text now
pub rest_begins : (room rest text : List ℕ) (a k n : ℕ) → a ≤ length room → n ≤ length rest → take n rest ≡ text →
    (a + n ≤ length (put_mid a k room rest)) × (take (a + n) (put_mid a k room rest) ≡ take a room ++ text)
rest_begins room rest text a k n within few is =
    let size = length-take-le a room within in
    let whole = length-append (take a room) (rest ++ post_of a k room) in
    let more = length-append rest (post_of a k room) in (
      omega (arith, size, few, whole, more),
      behind (take a room) rest (post_of a k room) a n size few ∙ ap (λ t. take a room ++ t) is,
    )
