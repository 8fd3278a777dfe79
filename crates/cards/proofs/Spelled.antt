-- Bytes that spell a lawful card are read as it; and the text of a lawful card spells it.
use Rattle.std.proofs.Common.{◌≡◌, ℕ, ◌≤◌, true, not, leb, List, [], ◌∷◌, ◌++◌, map, length, Ok, sym, refl, ap, ◌∙◌, subst, append-nil, arith}
use Rattle.std.specs.List.{flat_map, AllByRecursion}
use Rattle.std.proofs.lemmas.List.Elements.{filter-append}
use Rattle.std.proofs.ByRecursion.{All-push, All-weaker}
use Rattle.std.proofs.lemmas.List.{length-map}
use Rattle.std.proofs.lemmas.Bool.{cond-true, cond-false, le-leb, ne_eqb, not_from_false}
use Rattle.sas.specs.Model.{ActionRules, product}
use Rattle.fields.specs.Text.{pieces, tidy}
use Rattle.fields.specs.Lines.{map_ok, skipped}
use Rattle.cards.specs.Content.{Oper, Content, Lawful, sizes, action}
use Rattle.cards.specs.Reading.{Placed, Reading, ◌>>=◌, none, nothing, in_line, effective, whole, content, meaning}
use Rattle.cards.specs.Spelling.{operator_lines, lines, spelled, telling, Mixed, ended, left, right, Blocks, empty, block, Spells, ReadBack}
use Rattle.cards.proofs.Pieces.{pieces_lines}
use Rattle.cards.proofs.Cuts.{tidy_free}
use Rattle.cards.proofs.Fields.{bind_ok}
use Rattle.cards.proofs.Steps.{Steps, blank, blank_kept}
use Rattle.cards.proofs.Records.{lawful_stands}
use Rattle.cards.proofs.Stands.{Sound, steps_sound, lines_read}

effective_passes : (zs : List ℕ) (os : List Placed) → AllByRecursion (ActionRules zs) (map action (map (λ o. o.oper) os)) → effective os ≡ Ok tt
effective_passes zs [] a = refl
effective_passes zs (o ∷ os) a =
    cond-false (none o.oper.effects) _ _ (ne_eqb (length o.oper.effects) 0 (λ e. omega (arith, a.0.some_effects)))
    ∙ effective_passes zs os a.1

whole_passes : (s : Reading) → Lawful (content s) → whole s ≡ Ok s
whole_passes s h =
    cond-false (none s.vars) _ _ (ne_eqb (length s.vars) 0 (λ e. omega (arith, length-map s.vars (λ v. v.size), h.rules.some_variables)))
    ∙ bind_ok (effective s.opers) tt _ (effective_passes (sizes s.vars) s.opers h.rules.acting)
    ∙ cond-true (leb (product (sizes s.vars)) 1048576) _ _ (le-leb (product (sizes s.vars)) 1048576 h.rules.few_states)

pub spells_read : (bytes : List ℕ) (c : Content) → length bytes ≤ 16384 → Lawful c → Spells bytes c → meaning bytes ≡ Ok c
unfolding meaning
spells_read bytes c short h k =
    let r = lines_read 1 nothing (pieces 10 bytes) c blank_kept k.tidy (subst (λ ls. Steps blank ls c) (sym k.records) (lawful_stands c h k.blocks)) in
    ap (map_ok content)
    (cond-true (leb (length bytes) 16384) _ _ (le-leb (length bytes) 16384 short)
    ∙ ap (λ q. in_line q >>= whole) r.read
    ∙ whole_passes r.last (subst Lawful (sym r.says) h))
    ∙ ap Ok r.says

-- the text of a card
mixed_append : (xs ys : List (List ℕ)) → Mixed xs ys (xs ++ ys)
mixed_append [] [] = ended
mixed_append [] (y ∷ ys) = right (mixed_append [] ys)
mixed_append (x ∷ xs) ys = left (mixed_append xs ys)

blocks_spelled : (os : List Oper) → Blocks os (flat_map operator_lines os)
blocks_spelled [] = empty
blocks_spelled (o ∷ os) = block (mixed_append _ _) (blocks_spelled os)

sound_telling : (ls : List (List ℕ)) → AllByRecursion Sound ls → telling ls ≡ ls
sound_telling [] h = refl
sound_telling (l ∷ ls) h = cond-true (not (skipped l)) _ _ (not_from_false (skipped l) h.0.told) ∙ ap (◌∷◌ l) (sound_telling ls h.1)

pub spelled_spells : (c : Content) → Lawful c → Spells (spelled c) c
unfolding spelled
spelled_spells c h =
    let b = blocks_spelled c.operators in
    let sound : AllByRecursion Sound (lines c) = steps_sound blank c (lines c) blank_kept (lawful_stands c h b) in
    let clean = All-weaker Sound (λ l. tidy l ≡ true) (λ l k. k.clean) (lines c) sound in
    let cut = pieces_lines (lines c) (All-weaker (λ l. tidy l ≡ true) _ tidy_free (lines c) clean) in
    record {
      tidy = subst (AllByRecursion (λ l. tidy l ≡ true)) (sym cut) (All-push (λ l. tidy l ≡ true) (lines c) [] clean refl);
      middle = flat_map operator_lines c.operators;
      blocks = b;
      records = ap telling cut ∙ filter-append (λ l. not (skipped l)) (lines c) ([] ∷ []) ∙ append-nil (telling (lines c)) ∙ sound_telling (lines c) sound;
    }

pub read_back : (c : Content) → ReadBack c
read_back c h short = spells_read (spelled c) c short h (spelled_spells c h)
