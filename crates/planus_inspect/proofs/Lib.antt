mod Good
