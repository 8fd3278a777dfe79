-- Whatever is read keeps the rules, and its text spells it.
use Rattle.std.proofs.Common.{◌≡◌, ℕ, ◌≤◌, true, false, leb, List, [], ◌∷◌, map, length, IfOk, Ok, arith}
use Rattle.std.specs.List.{AllByRecursion}
use Rattle.std.proofs.lemmas.List.{length-map}
use Rattle.std.proofs.ByRecursion.{All-weaker, All-map}
use Rattle.std.proofs.lemmas.Result.{IfOk-at_ok, IfOk-weaker}
use Rattle.std.proofs.lemmas.Bool.{leb-true, eqb-false}
use Rattle.sas.specs.Model.{ActionRules, product}
use Rattle.fields.specs.Text.{pieces, tidy}
use Rattle.cards.specs.Content.{Oper, Content, Lawful, VarRules, OperRules, sizes, action}
use Rattle.cards.specs.Reading.{Placed, Reading, none, read_on, nothing, effective, whole, reading, content, meaning}
use Rattle.cards.specs.Spelling.{telling, Spells, KeepsRules}
use Rattle.cards.proofs.Chains.{made_bind, made_map_ok, made_in_line, made_test, made_unless}
use Rattle.cards.proofs.Goals.{goal_valued, goal_distinct}
use Rattle.cards.proofs.Steps.{VarKept, OperKept, Kept, kept_sized, Steps, steps_kept, blank, blank_kept}
use Rattle.cards.proofs.Records.{Says, steps_say}
use Rattle.cards.proofs.Taken.{lines_taken}

abbrev Acts : Oper → Type 0
Acts o = 1 ≤ length o.effects

effective_made : (os : List Placed) → IfOk (effective os) (λ _. AllByRecursion (λ o. Acts o.oper) os)
effective_made [] = tt
effective_made (o ∷ os) =
    made_unless (λ _. AllByRecursion (λ o. Acts o.oper) (o ∷ os)) (none o.oper.effects) _ (effective os)
    (λ e. IfOk-weaker (effective os) _ _ (λ _ h. (let z = eqb-false (length o.oper.effects) 0 e in omega arith, h)) (effective_made os))

acting : (zs : List ℕ) (os : List Oper) → AllByRecursion (OperKept zs) os → AllByRecursion Acts os → AllByRecursion (ActionRules zs) (map action os)
acting zs [] h e = tt
acting zs (o ∷ os) h e = (
  record {
    few_preconditions = h.0.preconditions.few;
    some_effects = e.0;
    few_effects = h.0.effects.few;
    preconditions_valued = h.0.preconditions.valued;
    effects_valued = h.0.effects.valued;
    preconditions_distinct = h.0.preconditions.distinct;
    effects_distinct = h.0.effects.distinct;
  },
  acting zs os h.1 e.1,
)

kept_lawful : (c : Content) → Kept c → none c.variables ≡ false → AllByRecursion Acts c.operators → product (sizes c.variables) ≤ 1048576 → Lawful c
kept_lawful c h v e p =
    let ruled : AllByRecursion VarRules c.variables = All-weaker VarKept VarRules (λ x k. k.rules) c.variables h.variables in
    let count = length-map c.variables (λ v. v.size) in
    record {
      rules = record {
        some_variables = (let z = eqb-false (length c.variables) 0 v in omega arith);
        few_variables = rw count h.few_variables;
        sized = kept_sized c.variables h.variables;
        few_states = p;
        goal_valued = goal_valued [] c.variables ruled;
        goal_distinct = goal_distinct 0 c.variables;
        few_operators = rw (length-map c.operators action) h.few_operators;
        acting = acting (sizes c.variables) c.operators h.operators e;
      };
      variables = ruled;
      operators = All-weaker (OperKept (sizes c.variables)) OperRules (λ x k. k.rules) c.operators h.operators;
      few_patterns = h.few_patterns;
      patterns = h.patterns;
    }

whole_made : (P : Reading → Type 0) (s : Reading) → Kept (content s) → (Lawful (content s) → P s) → IfOk (whole s) P
whole_made P s h k =
    made_unless P (none s.vars) _ _
    (λ v. made_bind (λ _. AllByRecursion (λ o. Acts o.oper) s.opers) P (effective s.opers) _ (effective_made s.opers)
    (λ _ e. made_test P (leb (product (sizes s.vars)) 1048576) (Ok s) _
    (λ p. k (kept_lawful (content s) h v (All-map Acts (λ o. o.oper) s.opers e) (leb-true (product (sizes s.vars)) 1048576 p)))))

-- what is known of bytes that are read as c
abbrev Known : List ℕ → Content → Type 0
Known bytes c = (length bytes ≤ 16384) × Lawful c × Spells bytes c

spells : (bytes : List ℕ) (c : Content) → AllByRecursion (λ l. tidy l ≡ true) (pieces 10 bytes) → Says (telling (pieces 10 bytes)) c → Spells bytes c
spells bytes c t h = record { tidy = t; middle = h.middle; blocks = h.blocks; records = h.records }

reading_made : (bytes : List ℕ) → IfOk (reading bytes) (λ s. Known bytes (content s))
reading_made bytes =
    made_test (λ s. Known bytes (content s)) (leb (length bytes) 16384) _ _
    (λ l. made_bind Said (λ s. Known bytes (content s)) _ whole (made_in_line Said (read_on 1 nothing (pieces 10 bytes)) (lines_taken 1 nothing (pieces 10 bytes) blank_kept))
    (λ s k. whole_made (λ t. Known bytes (content t)) s (steps_kept blank (content s) (telling (pieces 10 bytes)) blank_kept k.1)
    (λ lawful. (leb-true (length bytes) 16384 l, lawful, spells bytes (content s) k.0 (steps_say (content s) (telling (pieces 10 bytes)) k.1)))))
  where
    Said : Reading → Type 0
    Said s = AllByRecursion (λ l. tidy l ≡ true) (pieces 10 bytes) × Steps blank (telling (pieces 10 bytes)) (content s)

pub reading_lawful : (bytes : List ℕ) (s : Reading) → reading bytes ≡ Ok s → Lawful (content s)
reading_lawful bytes s e = (IfOk-at_ok (λ t. Known bytes (content t)) e (reading_made bytes)).1

pub meaning_known : (bytes : List ℕ) (c : Content) → meaning bytes ≡ Ok c → (length bytes ≤ 16384) × Lawful c × Spells bytes c
unfolding meaning
meaning_known bytes c e = IfOk-at_ok (Known bytes) e (made_map_ok (Known bytes) content (reading bytes) (reading_made bytes))

pub keeps_rules : (bytes : List ℕ) → KeepsRules bytes
keeps_rules bytes c e = (meaning_known bytes c e).1
