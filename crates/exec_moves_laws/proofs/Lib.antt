mod OneSeen
