mod RuleFacts
