use Rattle.std.proofs.Common.{◌≡◌, ◌≢◌, ℕ, ◌+◌, ◌-◌, ◌<◌, List, [], ◌∷◌, ◌++◌, Bool, false, if◌then◌else◌, ap, arith, refl, sym, ◌∙◌}
use Rattle.std.proofs.Common.{drop, length, length-drop, slice_index_or, take}
use Rattle.std.proofs.lemmas.List.{append_assoc, at_drop_more, take_all}
use Rattle.dma_manual.specs.Addresses.{blanked, is_address, stays_in_address}
use Rattle.dma_manual.proofs.addresses.without_addresses.Goals as goal
use Rattle.dma_manual.proofs.addresses.without_addresses.Goals.{then-in_address, else-in_address, in-10, in-58, in_default}

-- one more byte
blanked_more : (inside stays : Bool) (at : ℕ) (text bytes pushed : List ℕ) → at < length text
    → pushed ≡ bytes ++ (if inside then 32 else slice_index_or text at 0) ∷ []
    → stays ≡ stays_in_address inside (slice_index_or text at 0) (drop (at + 1) text)
    → pushed ++ blanked stays (drop (at + 1) text) ≡ bytes ++ blanked inside (drop at text)
blanked_more inside stays at text bytes pushed lt is to =
    rw (is, to, append_assoc) (sym (at_drop_more (λ rest. bytes ++ blanked inside rest) text at 0 lt))

-- a slice to the end is the whole rest
rest_all : (text : List ℕ) (n : ℕ) → take (length text - n) (drop n text) ≡ drop n text
rest_all text n = take_all (length text - n) (drop n text) (omega (arith, length-drop n text))

-- whether the byte after b is in an address, by what b is
stays_line : (inside stays : Bool) (b : ℕ) (text : List ℕ) → b ≡ 10 → stays ≡ is_address text → stays ≡ stays_in_address inside b text
stays_line inside stays b text is to = rw is to

stays_colon : (inside stays : Bool) (b : ℕ) (text : List ℕ) → b ≡ 58 → stays ≡ false → stays ≡ stays_in_address inside b text
stays_colon inside stays b text is to = rw is to

stays_other : (inside stays : Bool) (b : ℕ) (text : List ℕ) → b ≢ 10 → b ≢ 58 → stays ≡ inside → stays ≡ stays_in_address inside b text
stays_other inside stays b text line colon to = grind arith

pub loop-at-preserved : goal.loop-at-preserved
loop-at-preserved c =
    let now = c.loop-at in
    let text = c.args.text.now in
    let b = slice_index_or text now.at 0 in
    let byte : c.if-in_address.push ≡ (if now.in_address then 32 else b) = elim c.if-in_address.branch [
      | then-in_address w ↦ w.push-is ∙ rw w.if-in_address.true refl
      | else-in_address w ↦ w.push-is ∙ rw w.if-in_address.false refl
    ] in
    let stays : c.match-byte.in_address ≡ stays_in_address now.in_address b (drop (now.at + 1) text) = elim c.match-byte.branch [
      | in-10 w ↦ stays_line now.in_address c.match-byte.in_address b (drop (now.at + 1) text) w.in-10.is
          (w.in_address-is ∙ w.is_address-in_address-in-10.ensures ∙ ap is_address (rest_all text (now.at + 1)))
      | in-58 w ↦ stays_colon now.in_address c.match-byte.in_address b (drop (now.at + 1) text) w.in-58.is w.in_address-is
      | in_default w ↦ stays_other now.in_address c.match-byte.in_address b (drop (now.at + 1) text) (λ is. omega arith) (λ is. omega arith) w.in_address-is
    ] in
    let pushed : c.push.new.self.items ≡ now.blanked.items ++ (if now.in_address then 32 else b) ∷ [] =
    c.in_ok-push.ensures.items ∙ ap (λ (x : ℕ). now.blanked.items ++ x ∷ []) byte in (
      blanked_more now.in_address c.match-byte.in_address now.at text now.blanked.items c.push.new.self.items c.loop-at-test.true pushed stays
          ∙ now.invariant.0,
      omega (arith, c.in_ok-push.ensures.len, now.invariant.1),
    )
