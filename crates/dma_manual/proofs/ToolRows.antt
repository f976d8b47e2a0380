-- What tools print, computed from its definitions: `tests/test_printed` compares with the tools.
use Rattle.std.proofs.Common.{◌≡◌, ℕ, List, [], ◌∷◌, ◌++◌, None, codes, replicate, refl}
use Rattle.dma_manual.specs.declared.forms.Group.TheVariants.{Byte, Half, Word, Long, Octal}
use Rattle.dma_manual.specs.Printed.{gdb_x, hexdump, hexdump_canonical, objdump, od, places, short_places, xxd}

-- lines, each with a line feed
abbrev fed : List (List ℕ) → List ℕ
fed [] = []
fed (line ∷ lines) = line ++ 10 ∷ fed lines

-- the front of a program, a line that begins with spaces, and a line that isn't whole
abbrev sample : List ℕ
sample = 188 ∷ 1 ∷ 247 ∷ 194 ∷ 189 ∷ 0 ∷ 188 ∷ 0 ∷ 0 ∷ 0 ∷ 0 ∷ 16 ∷ 188 ∷ 2 ∷ 0 ∷ 16 ∷ 32 ∷ 32 ∷ 32 ∷ 40 ∷ 68 ∷ 77 ∷ 65 ∷ 45 ∷ 51 ∷ 51 ∷ 48 ∷ 41 ∷ 124 ∷ 32 ∷ 123 ∷ 125 ∷ 52 ∷ 24 ∷ 0 ∷ []

-- hexdump -v -C
row_0 : hexdump_canonical sample
    ≡ fed (codes "00000000  bc 01 f7 c2 bd 00 bc 00  00 00 00 10 bc 02 00 10  |................|"
    ∷ codes "00000010  20 20 20 28 44 4d 41 2d  33 33 30 29 7c 20 7b 7d  |   (DMA-330)| {}|"
    ∷ codes "00000020  34 18 00                                          |4..|"
    ∷ codes "00000023" ∷ [])
unfolding places short_places
row_0 = refl

-- hexdump -v
row_1 : hexdump sample
    ≡ fed (codes "0000000 01bc c2f7 00bd 00bc 0000 1000 02bc 1000"
    ∷ codes "0000010 2020 2820 4d44 2d41 3333 2930 207c 7d7b"
    ∷ codes "0000020 1834 0000                              "
    ∷ codes "0000023" ∷ [])
unfolding places short_places
row_1 = refl

-- od -v -A o -t x1
row_2 : od 8 7 Byte sample
    ≡ fed (codes "0000000 bc 01 f7 c2 bd 00 bc 00 00 00 00 10 bc 02 00 10"
    ∷ codes "0000020 20 20 20 28 44 4d 41 2d 33 33 30 29 7c 20 7b 7d"
    ∷ codes "0000040 34 18 00"
    ∷ codes "0000043" ∷ [])
unfolding places short_places
row_2 = refl

-- od -v -A o -t x2
row_3 : od 8 7 Half sample
    ≡ fed (codes "0000000 01bc c2f7 00bd 00bc 0000 1000 02bc 1000"
    ∷ codes "0000020 2020 2820 4d44 2d41 3333 2930 207c 7d7b"
    ∷ codes "0000040 1834 0000"
    ∷ codes "0000043" ∷ [])
unfolding places short_places
row_3 = refl

-- od -v -A o -t x4
row_4 : od 8 7 Word sample
    ≡ fed (codes "0000000 c2f701bc 00bc00bd 10000000 100002bc"
    ∷ codes "0000020 28202020 2d414d44 29303333 7d7b207c"
    ∷ codes "0000040 00001834"
    ∷ codes "0000043" ∷ [])
unfolding places short_places
row_4 = refl

-- od -v -A o -t x8
row_5 : od 8 7 Long sample
    ≡ fed (codes "0000000 00bc00bdc2f701bc 100002bc10000000"
    ∷ codes "0000020 2d414d4428202020 7d7b207c29303333"
    ∷ codes "0000040 0000000000001834"
    ∷ codes "0000043" ∷ [])
unfolding places short_places
row_5 = refl

-- od -v -A o -t o2
row_6 : od 8 7 Octal sample
    ≡ fed (codes "0000000 000674 141367 000275 000274 000000 010000 001274 010000"
    ∷ codes "0000020 020040 024040 046504 026501 031463 024460 020174 076573"
    ∷ codes "0000040 014064 000000"
    ∷ codes "0000043" ∷ [])
unfolding places short_places
row_6 = refl

-- od -v -A d -t x1
row_7 : od 10 7 Byte sample
    ≡ fed (codes "0000000 bc 01 f7 c2 bd 00 bc 00 00 00 00 10 bc 02 00 10"
    ∷ codes "0000016 20 20 20 28 44 4d 41 2d 33 33 30 29 7c 20 7b 7d"
    ∷ codes "0000032 34 18 00"
    ∷ codes "0000035" ∷ [])
unfolding places short_places
row_7 = refl

-- od -v -A d -t x2
row_8 : od 10 7 Half sample
    ≡ fed (codes "0000000 01bc c2f7 00bd 00bc 0000 1000 02bc 1000"
    ∷ codes "0000016 2020 2820 4d44 2d41 3333 2930 207c 7d7b"
    ∷ codes "0000032 1834 0000"
    ∷ codes "0000035" ∷ [])
unfolding places short_places
row_8 = refl

-- od -v -A d -t x4
row_9 : od 10 7 Word sample
    ≡ fed (codes "0000000 c2f701bc 00bc00bd 10000000 100002bc"
    ∷ codes "0000016 28202020 2d414d44 29303333 7d7b207c"
    ∷ codes "0000032 00001834"
    ∷ codes "0000035" ∷ [])
unfolding places short_places
row_9 = refl

-- od -v -A d -t x8
row_10 : od 10 7 Long sample
    ≡ fed (codes "0000000 00bc00bdc2f701bc 100002bc10000000"
    ∷ codes "0000016 2d414d4428202020 7d7b207c29303333"
    ∷ codes "0000032 0000000000001834"
    ∷ codes "0000035" ∷ [])
unfolding places short_places
row_10 = refl

-- od -v -A d -t o2
row_11 : od 10 7 Octal sample
    ≡ fed (codes "0000000 000674 141367 000275 000274 000000 010000 001274 010000"
    ∷ codes "0000016 020040 024040 046504 026501 031463 024460 020174 076573"
    ∷ codes "0000032 014064 000000"
    ∷ codes "0000035" ∷ [])
unfolding places short_places
row_11 = refl

-- od -v -A x -t x1
row_12 : od 16 6 Byte sample
    ≡ fed (codes "000000 bc 01 f7 c2 bd 00 bc 00 00 00 00 10 bc 02 00 10"
    ∷ codes "000010 20 20 20 28 44 4d 41 2d 33 33 30 29 7c 20 7b 7d"
    ∷ codes "000020 34 18 00"
    ∷ codes "000023" ∷ [])
unfolding places short_places
row_12 = refl

-- od -v -A x -t x2
row_13 : od 16 6 Half sample
    ≡ fed (codes "000000 01bc c2f7 00bd 00bc 0000 1000 02bc 1000"
    ∷ codes "000010 2020 2820 4d44 2d41 3333 2930 207c 7d7b"
    ∷ codes "000020 1834 0000"
    ∷ codes "000023" ∷ [])
unfolding places short_places
row_13 = refl

-- od -v -A x -t x4
row_14 : od 16 6 Word sample
    ≡ fed (codes "000000 c2f701bc 00bc00bd 10000000 100002bc"
    ∷ codes "000010 28202020 2d414d44 29303333 7d7b207c"
    ∷ codes "000020 00001834"
    ∷ codes "000023" ∷ [])
unfolding places short_places
row_14 = refl

-- od -v -A x -t x8
row_15 : od 16 6 Long sample
    ≡ fed (codes "000000 00bc00bdc2f701bc 100002bc10000000"
    ∷ codes "000010 2d414d4428202020 7d7b207c29303333"
    ∷ codes "000020 0000000000001834"
    ∷ codes "000023" ∷ [])
unfolding places short_places
row_15 = refl

-- od -v -A x -t o2
row_16 : od 16 6 Octal sample
    ≡ fed (codes "000000 000674 141367 000275 000274 000000 010000 001274 010000"
    ∷ codes "000010 020040 024040 046504 026501 031463 024460 020174 076573"
    ∷ codes "000020 014064 000000"
    ∷ codes "000023" ∷ [])
unfolding places short_places
row_16 = refl

-- xxd -g 1
row_17 : xxd 1 sample
    ≡ fed (codes "00000000: bc 01 f7 c2 bd 00 bc 00 00 00 00 10 bc 02 00 10  ................"
    ∷ codes "00000010: 20 20 20 28 44 4d 41 2d 33 33 30 29 7c 20 7b 7d     (DMA-330)| {}"
    ∷ codes "00000020: 34 18 00                                         4.." ∷ [])
unfolding places short_places
row_17 = refl

-- xxd -g 2
row_18 : xxd 2 sample
    ≡ fed (codes "00000000: bc01 f7c2 bd00 bc00 0000 0010 bc02 0010  ................"
    ∷ codes "00000010: 2020 2028 444d 412d 3333 3029 7c20 7b7d     (DMA-330)| {}"
    ∷ codes "00000020: 3418 00                                  4.." ∷ [])
unfolding places short_places
row_18 = refl

-- xxd -g 4
row_19 : xxd 4 sample
    ≡ fed (codes "00000000: bc01f7c2 bd00bc00 00000010 bc020010  ................"
    ∷ codes "00000010: 20202028 444d412d 33333029 7c207b7d     (DMA-330)| {}"
    ∷ codes "00000020: 341800                               4.." ∷ [])
unfolding places short_places
row_19 = refl

-- xxd -g 8
row_20 : xxd 8 sample
    ≡ fed (codes "00000000: bc01f7c2bd00bc00 00000010bc020010  ................"
    ∷ codes "00000010: 20202028444d412d 333330297c207b7d     (DMA-330)| {}"
    ∷ codes "00000020: 341800                             4.." ∷ [])
unfolding places short_places
row_20 = refl

-- xxd -g 16
row_21 : xxd 16 sample
    ≡ fed (codes "00000000: bc01f7c2bd00bc0000000010bc020010  ................"
    ∷ codes "00000010: 20202028444d412d333330297c207b7d     (DMA-330)| {}"
    ∷ codes "00000020: 341800                            4.." ∷ [])
unfolding places short_places
row_21 = refl

-- objdump -s
row_22 : objdump 4 (codes ".data") 0x3000 sample
    ≡ fed (codes "Contents of section .data:"
    ∷ codes " 3000 bc01f7c2 bd00bc00 00000010 bc020010  ................"
    ∷ codes " 3010 20202028 444d412d 33333029 7c207b7d     (DMA-330)| {}"
    ∷ codes " 3020 341800                               4..             " ∷ [])
unfolding places short_places
row_22 = refl

-- gdb -nx -batch -ex x/{}xb 0x3000
row_23 : gdb_x Byte (λ a. None) 0x3000 sample
    ≡ fed ((codes "0x3000:" ++ (9 ∷ codes "0xbc" ++ (9 ∷ codes "0x01" ++ (9 ∷ codes "0xf7" ++ (9 ∷ codes "0xc2" ++ (9 ∷ codes "0xbd" ++ (9 ∷ codes "0x00" ++ (9 ∷ codes "0xbc" ++ (9 ∷ codes "0x00")))))))))
    ∷ (codes "0x3008:" ++ (9 ∷ codes "0x00" ++ (9 ∷ codes "0x00" ++ (9 ∷ codes "0x00" ++ (9 ∷ codes "0x10" ++ (9 ∷ codes "0xbc" ++ (9 ∷ codes "0x02" ++ (9 ∷ codes "0x00" ++ (9 ∷ codes "0x10")))))))))
    ∷ (codes "0x3010:" ++ (9 ∷ codes "0x20" ++ (9 ∷ codes "0x20" ++ (9 ∷ codes "0x20" ++ (9 ∷ codes "0x28" ++ (9 ∷ codes "0x44" ++ (9 ∷ codes "0x4d" ++ (9 ∷ codes "0x41" ++ (9 ∷ codes "0x2d")))))))))
    ∷ (codes "0x3018:" ++ (9 ∷ codes "0x33" ++ (9 ∷ codes "0x33" ++ (9 ∷ codes "0x30" ++ (9 ∷ codes "0x29" ++ (9 ∷ codes "0x7c" ++ (9 ∷ codes "0x20" ++ (9 ∷ codes "0x7b" ++ (9 ∷ codes "0x7d")))))))))
    ∷ (codes "0x3020:" ++ (9 ∷ codes "0x34" ++ (9 ∷ codes "0x18" ++ (9 ∷ codes "0x00")))) ∷ [])
unfolding places short_places
row_23 = refl

-- gdb -nx -batch -ex x/{}xh 0x3000
row_24 : gdb_x Half (λ a. None) 0x3000 (sample ++ replicate 1 0)
    ≡ fed ((codes "0x3000:" ++ (9 ∷ codes "0x01bc" ++ (9 ∷ codes "0xc2f7" ++ (9 ∷ codes "0x00bd" ++ (9 ∷ codes "0x00bc" ++ (9 ∷ codes "0x0000" ++ (9 ∷ codes "0x1000" ++ (9 ∷ codes "0x02bc" ++ (9 ∷ codes "0x1000")))))))))
    ∷ (codes "0x3010:" ++ (9 ∷ codes "0x2020" ++ (9 ∷ codes "0x2820" ++ (9 ∷ codes "0x4d44" ++ (9 ∷ codes "0x2d41" ++ (9 ∷ codes "0x3333" ++ (9 ∷ codes "0x2930" ++ (9 ∷ codes "0x207c" ++ (9 ∷ codes "0x7d7b")))))))))
    ∷ (codes "0x3020:" ++ (9 ∷ codes "0x1834" ++ (9 ∷ codes "0x0000"))) ∷ [])
unfolding places short_places
row_24 = refl

-- gdb -nx -batch -ex x/{}xw 0x3000
row_25 : gdb_x Word (λ a. None) 0x3000 (sample ++ replicate 1 0)
    ≡ fed ((codes "0x3000:" ++ (9 ∷ codes "0xc2f701bc" ++ (9 ∷ codes "0x00bc00bd" ++ (9 ∷ codes "0x10000000" ++ (9 ∷ codes "0x100002bc")))))
    ∷ (codes "0x3010:" ++ (9 ∷ codes "0x28202020" ++ (9 ∷ codes "0x2d414d44" ++ (9 ∷ codes "0x29303333" ++ (9 ∷ codes "0x7d7b207c")))))
    ∷ (codes "0x3020:" ++ (9 ∷ codes "0x00001834")) ∷ [])
unfolding places short_places
row_25 = refl

-- gdb -nx -batch -ex x/{}xg 0x3000
row_26 : gdb_x Long (λ a. None) 0x3000 (sample ++ replicate 5 0)
    ≡ fed ((codes "0x3000:" ++ (9 ∷ codes "0x00bc00bdc2f701bc" ++ (9 ∷ codes "0x100002bc10000000")))
    ∷ (codes "0x3010:" ++ (9 ∷ codes "0x2d414d4428202020" ++ (9 ∷ codes "0x7d7b207c29303333")))
    ∷ (codes "0x3020:" ++ (9 ∷ codes "0x0000000000001834")) ∷ [])
unfolding places short_places
row_26 = refl
