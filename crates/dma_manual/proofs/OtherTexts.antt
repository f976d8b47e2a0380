-- What the printed lines of instructions that no channel executes say.
use Rattle.std.proofs.Common.{◌≡◌, ℕ, ◌^◌, ◌<◌, ◌≤◌, Bool, true, false, List, [], ◌∷◌, ◌++◌, refl, sym, subst, ap, ◌∙◌, Some, None, Ok, arith, codes, decimal}
use Rattle.std.specs.List.{list_all}
use Rattle.std.proofs.lemmas.Bool.{le-leb}
use Rattle.dma_text.specs.Digits.{hex_digits}
use Rattle.dma_manual.specs.Statements.{Label, await_line, awaited_of, by_name, by_other_name, go_line, peripheral_line}
use Rattle.dma_manual.specs.{declared.insns.Action.Action, declared.insns.Awaited.Awaited, declared.insns.ManualInsn.TheVariants.Other}
use Rattle.dma_manual.specs.{declared.insns.OtherInsn.TheVariants.OfPeripheral, declared.insns.OtherInsn.TheVariants.Go, Words.is_word_byte, Words.next_of}
use Rattle.dma_manual.specs.{Operands.channel_at, Operands.flag_at, Operands.number_of, Operands.peripheral_at, Assembled.label_by}
use Rattle.dma_manual.proofs.Cuts.{gap_spaces, has_bytes, is_gap, is_space, next_none, next_space, next_word}
use Rattle.dma_manual.proofs.{Numerals.decimal_read, Numerals.hex_read, Numerals.hex_words, Numerals.plain, Numerals.plain_append_law, Said.Says, Said.flag_of, Said.last_word, Said.named}
use Rattle.dma_manual.specs.declared.insns.Action.TheVariants as action
use Rattle.dma_manual.specs.declared.statements.Statement.TheVariants as says

-- the words after a name
peripheral_of : (digits rest : List ℕ) (p : ℕ) → number_of digits ≡ Some p → p ≤ 31 → peripheral_at (112 ∷ digits) rest ≡ Ok p
peripheral_of digits rest p h small = rw (h, le-leb 0 p (omega arith), le-leb p 31 small) refl

channel_of : (digits rest : List ℕ) (c : ℕ) → number_of digits ≡ Some c → c ≤ 7 → channel_at (99 ∷ digits) rest ≡ Ok c
channel_of digits rest c h small = rw (h, le-leb 0 c (omega arith), le-leb c 7 small) refl

line_of : (a : Action) (name rest w b : List ℕ) (p : ℕ) → next_of rest ≡ Some (w, b) → peripheral_at w b ≡ Ok p → next_of b ≡ None
    → peripheral_line a name rest ≡ Ok (says.Plain (Other (OfPeripheral a p)))
line_of a name rest w b p q r t = rw (q, r, t) refl

await_of : (awaited : Awaited) (name rest w b k c : List ℕ) (p : ℕ) → next_of rest ≡ Some (w, b) → peripheral_at w b ≡ Ok p → next_of b ≡ Some (k, c)
    → awaited_of k ≡ Some awaited → next_of c ≡ None → await_line name rest ≡ Ok (says.Plain (Other (OfPeripheral (action.Wait awaited) p)))
await_of awaited name rest w b k c p q r s is t = rw (q, r, s, is, t) refl

go_of : (ns : Bool) (name rest w b n d : List ℕ) (c a : ℕ) → next_of rest ≡ Some (w, b) → channel_at w b ≡ Ok c → next_of b ≡ Some (n, d) → number_of n ≡ Some a
    → a ≤ 0xffffffff
    → flag_at (codes "ns") d ≡ Ok ns → go_line name rest ≡ Ok (says.Plain (Other (Go c a ns)))
go_of ns name rest w b n d c a q r s is small flag = rw (q, r, s, is, le-leb 0 a (omega arith), le-leb a 0xffffffff small, flag) refl

-- a channel, an address and what follows it
go_split : (c a flag tail : List ℕ) → plain ((c ++ codes ", 0x") ++ (a ++ flag)) ++ tail ≡ plain c ++ 32 ∷ 32 ∷ 48 ∷ 120 ∷ (plain a ++ (plain flag ++ tail))
go_split c a flag tail = grind (arith, plain_append_law)

-- Each kind of instruction, in front of spaces.
module _ (labels : List Label) (tail : List ℕ) (spaces : list_all is_space tail ≡ true) where
  pub says_peripheral : (a : Action) (name : List ℕ) (p : ℕ) → p ≤ 31 → has_bytes name ≡ true → list_all is_word_byte name ≡ true
      → ((rest : List ℕ) → label_by (Some (name, rest)) ≡ None) → ((rest : List ℕ) → by_name labels name rest ≡ peripheral_line a name rest)
      → Says labels (name ++ 32 ∷ 112 ∷ (plain (decimal p ++ []) ++ tail)) (says.Plain (Other (OfPeripheral a p)))
  says_peripheral a name p small some word unlabelled is =
      let r = decimal_read p (omega arith) in
      let w = 112 ∷ plain (decimal p) in
      let rest = 32 ∷ (w ++ tail) in
      subst (λ (l : List ℕ). Says labels (name ++ 32 ∷ 112 ∷ l) (says.Plain (Other (OfPeripheral a p)))) (sym (plain_append_law (decimal p) [] tail))
      (named labels name rest (says.Plain (Other (OfPeripheral a p))) some word refl (unlabelled rest) (is rest
      ∙ line_of a name rest w tail p (next_space (w ++ tail) ∙ next_word w tail refl r.word (gap_spaces tail spaces))
      (peripheral_of (plain (decimal p)) tail p r.value small) (next_none tail spaces)))

  pub says_await : (awaited : Awaited) (flag word : List ℕ) (p : ℕ) → p ≤ 31 → plain flag ≡ 32 ∷ 32 ∷ word → has_bytes word ≡ true
      → list_all is_word_byte word ≡ true → awaited_of word ≡ Some awaited
      → Says labels (codes "dmawfp p" ++ (plain (decimal p ++ flag) ++ tail)) (says.Plain (Other (OfPeripheral (action.Wait awaited) p)))
  unfolding by_name by_other_name
  says_await awaited flag word p small shown some is_word is =
      let r = decimal_read p (omega arith) in
      let w = 112 ∷ plain (decimal p) in
      let last = word ++ tail in
      let rest = 32 ∷ (w ++ 32 ∷ 32 ∷ last) in
      subst (λ (l : List ℕ). Says labels (codes "dmawfp p" ++ l) (says.Plain (Other (OfPeripheral (action.Wait awaited) p))))
      (sym (plain_append_law (decimal p) flag tail ∙ ap (λ (l : List ℕ). plain (decimal p) ++ (l ++ tail)) shown))
      (named labels (codes "dmawfp") rest (says.Plain (Other (OfPeripheral (action.Wait awaited) p))) refl refl refl refl
      (await_of awaited (codes "dmawfp") rest w (32 ∷ 32 ∷ last) word tail p (next_space (w ++ 32 ∷ 32 ∷ last) ∙ next_word w (32 ∷ 32 ∷ last) refl r.word refl)
      (peripheral_of (plain (decimal p)) (32 ∷ 32 ∷ last) p r.value small)
      (last_word labels tail spaces word some is_word) is (next_none tail spaces)))

  go_said : (c a : ℕ) (ns : Bool) (flag : List ℕ) → c ≤ 7 → a < 2 ^ 32 → is_gap (plain flag ++ tail) ≡ true → flag_at (codes "ns") (plain flag ++ tail) ≡ Ok ns
      → Says labels (codes "dmago c" ++ (plain ((decimal c ++ codes ", 0x") ++ (hex_digits a ++ flag)) ++ tail)) (says.Plain (Other (Go c a ns)))
  unfolding by_name by_other_name
  go_said c a ns flag small low gap is =
      let r = decimal_read c (omega arith) in
      let w = 99 ∷ plain (decimal c) in
      let n = 48 ∷ 120 ∷ plain (hex_digits a) in
      let end = plain flag ++ tail in
      let rest = 32 ∷ (w ++ 32 ∷ 32 ∷ (n ++ end)) in
      subst (λ (l : List ℕ). Says labels (codes "dmago c" ++ l) (says.Plain (Other (Go c a ns)))) (sym (go_split (decimal c) (hex_digits a) flag tail))
      (named labels (codes "dmago") rest (says.Plain (Other (Go c a ns))) refl refl refl refl
      (go_of ns (codes "dmago") rest w (32 ∷ 32 ∷ (n ++ end)) n end c a
      (next_space (w ++ 32 ∷ 32 ∷ (n ++ end)) ∙ next_word w (32 ∷ 32 ∷ (n ++ end)) refl r.word refl)
      (channel_of (plain (decimal c)) (32 ∷ 32 ∷ (n ++ end)) c r.value small)
      (next_space (32 ∷ (n ++ end)) ∙ next_space (n ++ end) ∙ next_word n end refl (hex_words a).0 gap) (hex_read a low) (omega arith) is))

  pub says_go : (c a : ℕ) → c ≤ 7 → a < 2 ^ 32
      → Says labels (codes "dmago c" ++ (plain ((decimal c ++ codes ", 0x") ++ (hex_digits a ++ [])) ++ tail)) (says.Plain (Other (Go c a false)))
  says_go c a small low = go_said c a false [] small low (gap_spaces tail spaces) (rw (next_none tail spaces) refl)

  pub says_go_secure : (c a : ℕ) → c ≤ 7 → a < 2 ^ 32
      → Says labels (codes "dmago c" ++ (plain ((decimal c ++ codes ", 0x") ++ (hex_digits a ++ codes ", ns")) ++ tail)) (says.Plain (Other (Go c a true)))
  says_go_secure c a small low =
      let last = codes "ns" ++ tail in
      go_said c a true (codes ", ns") small low refl
      (flag_of (codes "ns") (32 ∷ 32 ∷ last) tail refl (last_word labels tail spaces (codes "ns") refl refl) (next_none tail spaces))
