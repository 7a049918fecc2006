mod ZeroLaws
