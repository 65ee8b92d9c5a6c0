-- What reads of a link come to, one after another.
use Rattle.std.proofs.Common.{◌≡◌, ℕ, ◌+◌, ◌-◌, ◌<◌, ◌≤◌, true, false, List, [], ◌∷◌, ◌++◌, length, take, drop, get_or, refl, sym, ap, ◌∙◌, arith, append_assoc, length-append, length-take, length-drop, inl, inr, append-nil}
use Rattle.std.specs.Prelude.{Option, None, Some}
use Rattle.std.proofs.lemmas.List.{take_all, drop_all, length-take-le}
use Rattle.std.proofs.Math.Seq.{take-append_seam, drop-append_seam, take-append-add}
use borrow.Rule.Slice.PartMut.{put_mid, post_of}
use Rattle.std.proofs.KnownBytes.{Consumes-trans}
use Rattle.std.specs.Io.KnownBytes.{Consumes}
use Rattle.less_terms.specs.Causes.{Rose}
use Rattle.less_outside.specs.Told.{Stays}
use Rattle.less_outside.specs.Link.{EndsExactly}
use Rattle.request_map.specs.Reading.{HasNext, OnlyReads, IsScanning, HasReadHead, IsFilled, HasReadBody}
use Rattle.request_map.specs.Scans.{scan_after, is_ended, until_end}
use Rattle.request_map.specs.declared.scan.Scan.{Scan}
use Rattle.request_map.specs.declared.scan.Scan.TheVariants.{Blank}
use Rattle.request_map.specs.declared.TheConstants.{MAX_HEAD_BYTES}

-- ---- what else a read leaves

pub stays_trans : (a b c : Option (List ℕ)) → Stays a b → Stays b c → Stays a c
stays_trans None b c h k = tt
stays_trans (Some x) None c h k = absurd h
stays_trans (Some x) (Some y) None h k = absurd k
stays_trans (Some x) (Some y) (Some z) h k = k ∙ h

pub stays_refl : (a : Option (List ℕ)) → Stays a a
stays_refl None = tt
stays_refl (Some x) = refl

pub only_refl : (n : ℕ) (s : Option (List ℕ)) (w : ℕ) → OnlyReads n n s s w w
only_refl n s w = record { count = omega arith; kept = stays_refl s; same = refl }

pub only_trans : (n m k : ℕ) (s t u : Option (List ℕ)) (w v x : ℕ) → OnlyReads n m s t w v → OnlyReads m k t u v x → OnlyReads n k s u w x
only_trans n m k s t u w v x a b = record { count = omega arith; kept = stays_trans s t u a.kept b.kept; same = b.same ∙ a.same }

pub rose_later : (n m k : ℕ) → n ≤ m → Rose m k → Rose n k
rose_later n m k h r = omega arith

-- ---- one byte

pub one_byte : (old new : Option (List ℕ)) (room : List ℕ) (count : ℕ) → Consumes old new (take count room) → length room ≡ 1 → count ≡ 1 → HasNext old new (Some (get_or room 0 0))
one_byte old new [] count h l e = absurd (omega (arith, l))
one_byte old new (byte ∷ []) count h l e = rw e at h
one_byte old new (byte ∷ second ∷ room) count h l e = absurd (omega (arith, l))

pub no_byte : (old new : Option (List ℕ)) (room : List ℕ) (count : ℕ) → Consumes old new (take count room) → EndsExactly old 1 count → count ≡ 0 → HasNext old new None
no_byte None new room count h e z = tt
no_byte (Some left) None room count h e z = absurd h
no_byte (Some left) (Some now) room count h e z =
    let empty = (e (omega arith)).0 z in
    let split : left ≡ take 0 room ++ now = rw z at h in
    record { before = empty; after = sym split ∙ empty }

-- ---- the search for a head

pub scan_starts : (a : Option (List ℕ)) → IsScanning a a [] Blank
scan_starts None = tt
scan_starts (Some x) = record { split = refl; goes_on = refl }

-- what is left gives one byte more
next_split : (input bytes left now : List ℕ) (byte : ℕ) → input ≡ bytes ++ left → left ≡ byte ∷ now → input ≡ (bytes ++ byte ∷ []) ++ now
next_split input bytes left now byte split next = split ∙ ap (λ l. bytes ++ l) next ∙ sym (append_assoc bytes (byte ∷ []) now)

pub scan_more : (old mid new : Option (List ℕ)) (bytes : List ℕ) (scan : Scan) (byte : ℕ) → IsScanning old mid bytes scan → HasNext mid new (Some byte) → is_ended (scan_after scan byte) ≡ false → IsScanning old new (bytes ++ byte ∷ []) (scan_after scan byte)
scan_more None mid new bytes scan byte s n e = tt
scan_more (Some input) None new bytes scan byte s n e = absurd s
scan_more (Some input) (Some left) None bytes scan byte s n e = absurd n
scan_more (Some input) (Some left) (Some now) bytes scan byte s n e = record {
  split = next_split input bytes left now byte s.split n;
  goes_on =
      let here : until_end scan left ≡ byte ∷ until_end (scan_after scan byte) now = rw (n, e) refl in
      s.goes_on ∙ ap (λ l. bytes ++ l) here ∙ sym (append_assoc bytes (byte ∷ []) (until_end (scan_after scan byte) now));
}

-- a scan that has ended, or that has nothing left, found what is read
pub scan_ends : (old mid new : Option (List ℕ)) (bytes : List ℕ) (scan : Scan) (byte : ℕ) → IsScanning old mid bytes scan → HasNext mid new (Some byte) → is_ended (scan_after scan byte) ≡ true → length bytes + 1 ≤ MAX_HEAD_BYTES → HasReadHead old new (bytes ++ byte ∷ [])
scan_ends None mid new bytes scan byte s n e l = tt
scan_ends (Some input) None new bytes scan byte s n e l = absurd s
scan_ends (Some input) (Some left) None bytes scan byte s n e l = absurd n
scan_ends (Some input) (Some left) (Some now) bytes scan byte s n e l = record {
  split = next_split input bytes left now byte s.split n;
  part =
      let here : until_end scan left ≡ byte ∷ [] = rw (n, e) refl in
      let whole : until_end Blank input ≡ bytes ++ byte ∷ [] = s.goes_on ∙ ap (λ l. bytes ++ l) here in
      rw whole (sym (take_all MAX_HEAD_BYTES (bytes ++ byte ∷ []) (omega (arith, length-append bytes (byte ∷ []), l))));
}

pub scan_runs_out : (old mid new : Option (List ℕ)) (bytes : List ℕ) (scan : Scan) → IsScanning old mid bytes scan → HasNext mid new None → length bytes ≤ MAX_HEAD_BYTES → HasReadHead old new bytes
scan_runs_out None mid new bytes scan s n l = tt
scan_runs_out (Some input) None new bytes scan s n l = absurd s
scan_runs_out (Some input) (Some left) None bytes scan s n l = absurd n
scan_runs_out (Some input) (Some left) (Some now) bytes scan s n l = record {
  split = s.split ∙ ap (λ l. bytes ++ l) (n.before ∙ sym n.after);
  part =
      let here : until_end scan left ≡ [] = rw n.before refl in
      let whole : until_end Blank input ≡ bytes = s.goes_on ∙ ap (λ l. bytes ++ l) here ∙ append-nil bytes in
      rw whole (sym (take_all MAX_HEAD_BYTES bytes l));
}

-- a scan that came to the limit
pub scan_stops : (old new : Option (List ℕ)) (bytes : List ℕ) (scan : Scan) → IsScanning old new bytes scan → length bytes ≡ MAX_HEAD_BYTES → HasReadHead old new bytes
scan_stops None new bytes scan s l = tt
scan_stops (Some input) None bytes scan s l = absurd s
scan_stops (Some input) (Some left) bytes scan s l = record {
  split = s.split;
  part = rw (s.goes_on, ← l) (sym (take-append_seam bytes (until_end scan left)));
}

-- ---- the body

pub fill_starts : (a : Option (List ℕ)) (room : List ℕ) → Consumes a a (take 0 room)
fill_starts None room = tt
fill_starts (Some x) room = refl

-- the end came
pub filled_at_end : (old left new : Option (List ℕ)) (front room : List ℕ) (space size at count : ℕ) → Consumes old left front → Consumes left new (take count room) → EndsExactly left space count → 0 < space → count ≡ 0 → IsFilled old new size at
filled_at_end None left new front room space size at count f h e s z = tt
filled_at_end (Some input) None new front room space size at count f h e s z = absurd f
filled_at_end (Some input) (Some left) None front room space size at count f h e s z = absurd h
filled_at_end (Some input) (Some left) (Some now) front room space size at count f h e s z =
    let empty = (e s).0 z in
    let split : left ≡ take 0 room ++ now = rw z at h in
    inr (sym split ∙ empty)

-- the room is full
pub filled_whole : (old new : Option (List ℕ)) (front : List ℕ) (size at : ℕ) → Consumes old new front → at ≡ size → IsFilled old new size at
filled_whole None new front size at h e = tt
filled_whole (Some input) None front size at h e = absurd h
filled_whole (Some input) (Some now) front size at h e = inl e

-- one piece more
pub piece_taken : (a b c : Option (List ℕ)) (room piece : List ℕ) (at count : ℕ) → Consumes a b (take at room) → Consumes b c (take count piece) → at ≤ length room → Consumes a c (take (at + count) (take at room ++ piece))
piece_taken a b c room piece at count h k l =
    let front : length (take at room) ≡ at = length-take-le at room l in
    let whole = rw front at (take-append-add (take at room) piece count) in
    rw whole (Consumes-trans a b c (take at room) (take count piece) h k)

-- the same where the piece was put into the room
pub piece_put : (a b c : Option (List ℕ)) (room piece : List ℕ) (at count : ℕ) → Consumes a b (take at room) → Consumes b c (take count piece) → at ≤ length room → Consumes a c (take (at + count) (put_mid at (length room - at) room piece))
piece_put a b c room piece at count h k l =
    let tail : post_of at (length room - at) room ≡ [] = drop_all (length room - at) (drop at room) (omega (arith, length-drop at room)) in
    rw (tail, append-nil piece) (piece_taken a b c room piece at count h k l)

pub piece_within : (room piece : List ℕ) (at count : ℕ) → at ≤ length room → count ≤ length (take (length room - at) (drop at room)) → length piece ≡ length (take (length room - at) (drop at room)) → at + count ≤ length (put_mid at (length room - at) room piece)
piece_within room piece at count l c same =
    omega (arith, length-append (take at room) (piece ++ post_of at (length room - at) room), length-append piece (post_of at (length room - at) room), length-take-le at room l)

-- a body that came whole, or up to the end
pub body_read : (size : ℕ) (old new : Option (List ℕ)) (room : List ℕ) (count : ℕ) → length room ≡ size → count ≤ size → Consumes old new (take count room) → IsFilled old new size count → HasReadBody size old new (take count room)
body_read size None new room count l w h f = tt
body_read size (Some input) None room count l w h f = absurd h
body_read size (Some input) (Some now) room count l w h (inl full) =
    let front : length (take count room) ≡ size = length-take-le count room (omega arith) ∙ full in
    record {
      came = rw h (sym (rw front at (take-append_seam (take count room) now)));
      rest = rw h (sym (rw front at (drop-append_seam (take count room) now)));
    }
body_read size (Some input) (Some now) room count l w h (inr done) =
    let all : input ≡ take count room = h ∙ ap (λ x. take count room ++ x) done ∙ append-nil (take count room) in
    let short : length (take count room) ≤ size = omega (arith, length-take count room) in
    record {
      came = rw all (sym (take_all size (take count room) short));
      rest = rw all (done ∙ sym (drop_all size (take count room) short));
    }
