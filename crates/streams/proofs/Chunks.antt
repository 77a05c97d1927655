-- What is taken piece by piece, and what is written piece by piece.
use Rattle.std.proofs.Common.{◌≡◌, ℕ, ◌+◌, ◌-◌, ◌≤◌, List, ◌++◌, length, take, drop, sym, subst, length-append}
use Rattle.std.proofs.lemmas.List.{take-append-drop, length-take-le, length-drop}
use Rattle.std.proofs.Math.Seq.{take-length, take-append-add}
use Rattle.std.proofs.KnownBytes.{Appends-trans, Consumes-trans}
use Rattle.std.specs.declared.option.Option.{Option}
use Rattle.std.specs.Io.KnownBytes.{Appends, Consumes}
use Rattle.streams.specs.Streams.{SourceState}
use Rattle.streams.specs.ReadWrite.{TakesAtMost}

-- a further piece follows what is written
pub take_rest : (bytes : List ℕ) (at count : ℕ) → at ≤ length bytes
    → take at bytes ++ take count (take (length bytes - at) (drop at bytes)) ≡ take (at + count) bytes
take_rest bytes at count within =
    let whole : take (length bytes - at) (drop at bytes) ≡ drop at bytes = rw (← length-drop at bytes) (take-length (drop at bytes)) in
    let added = rw (length-take-le at bytes within, take-append-drop at bytes) at (take-append-add (take at bytes) (drop at bytes) count) in
    rw whole (sym added)

pub appends_more : (a b c : Option (List ℕ)) (bytes : List ℕ) (at count : ℕ) → at ≤ length bytes
    → Appends a b (take at bytes) → Appends b c (take count (take (length bytes - at) (drop at bytes))) → Appends a c (take (at + count) bytes)
appends_more a b c bytes at count within first second =
    subst (Appends a c) (take_rest bytes at count within) (Appends-trans a b c _ _ first second)

-- a further piece that is taken keeps within the limit
pub takes_more : (a b c : SourceState) (bytes piece : List ℕ) (most : ℕ) → length bytes + length piece ≤ most
    → Consumes a.left b.left bytes → Consumes b.left c.left piece → TakesAtMost a c most
takes_more a b c bytes piece most within first second =
    (bytes ++ piece, rw (length-append bytes piece) within, Consumes-trans a.left b.left c.left bytes piece first second)
